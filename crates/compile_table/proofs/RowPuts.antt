-- One row of the table, edge by edge.
-- In order: with_edge, put-start, put-more.
-- Assumes nothing.
use Rattle.std.proofs.Common.{◌≡◌, ◌+◌, ◌*◌, ◌/◌, ◌%◌, ◌<◌}
use Rattle.laws.proofs.All.{refl, ◌∙◌, List, ℕ, arith, below_more, length, get_or}
use Rattle.laws.proofs.All.{set, length-set, get_or-set_same, get_or-set_other}
use Rattle.compile_table.specs.declared.finish_table.TableRows.{TableRows}
use Rattle.compile_table.specs.Finishing.{RowPut}

-- ---- one row
abbrev pub with_edge : TableRows → ℕ → ℕ → ℕ → TableRows
with_edge r x w t = record { states = r.states; word = set r.word x w; next = set r.next x t }

pub put-start : (t : TableRows) (keys index : List ℕ) (i : ℕ) → length t.word ≡ 2048 → length t.next ≡ 2048
    → RowPut t keys index i 0 t
put-start t keys index i a b = record {
  states = refl;
  long_w = a;
  long_n = b;
  word = λ e h. absurd (omega arith);
  next = λ e h. absurd (omega arith);
  kept_w = λ x h. refl;
  kept_n = λ x h. refl;
}

pub put-more : (t : TableRows) (keys index : List ℕ) (i d : ℕ) (r : TableRows) → d < 16 → i < 128
    → RowPut t keys index i d r
    → RowPut t keys index i (d + 1)
    (with_edge r (i * 16 + d) (get_or keys d 0 / 128) (get_or index (get_or keys d 0 % 128) 0))
put-more t keys index i d r hd hi c = record {
  states = c.states;
  long_w = length-set r.word x w ∙ c.long_w;
  long_n = length-set r.next x m ∙ c.long_n;
  word = below_more (λ e. get_or (set r.word x w) (i * 16 + e) 0 ≡ get_or keys e 0 / 128) d
      (λ e h. get_or-set_other r.word x (i * 16 + e) w 0 (λ q. omega arith) ∙ c.word e h)
      (get_or-set_same r.word x w 0 (let l = c.long_w in omega arith));
  next = below_more (λ e. get_or (set r.next x m) (i * 16 + e) 0 ≡ get_or index (get_or keys e 0 % 128) 0) d
      (λ e h. get_or-set_other r.next x (i * 16 + e) m 0 (λ q. omega arith) ∙ c.next e h)
      (get_or-set_same r.next x m 0 (let l = c.long_n in omega arith));
  kept_w = λ y h. get_or-set_other r.word x y w 0 (λ q. omega arith) ∙ c.kept_w y h;
  kept_n = λ y h. get_or-set_other r.next x y m 0 (λ q. omega arith) ∙ c.kept_n y h;
}
  where
    x : ℕ
    x = i * 16 + d

    w : ℕ
    w = get_or keys d 0 / 128

    m : ℕ
    m = get_or index (get_or keys d 0 % 128) 0
