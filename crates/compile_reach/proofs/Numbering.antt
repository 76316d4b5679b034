-- Numbering those of the numbers below a bound that pass a test.
-- In order: Numbered, numbered-none, numbered-yes, numbered-no, numbered-end.
-- Assumes nothing.
use Rattle.std.proofs.Common.{◌≡◌, ◌∷◌, ◌++◌, ◌+◌, ◌≤◌, ◌<◌, if◌then◌else◌}
use Rattle.laws.proofs.All.{refl, sym, ap, ◌∙◌, Bool, true, false, List, [], ℕ}
use Rattle.laws.proofs.All.{add-one, arith, below_more, length, get_or, take, set, length-set, replicate}
use Rattle.laws.proofs.All.{length-replicate, get_or-replicate, length-take-le, get_or-set_same, get_or-set_other}
use Rattle.laws.proofs.All.{take-suc-set, elem, index_of}
use Rattle.compile_reach.specs.ReachSets.{Listed}
use Rattle.compile_graph.proofs.UpTo.{up_to, up_to-yes, up_to-no, elem-kept, index_kept}

module _ (q : ℕ → Bool) where
  pub record Numbered (i count : ℕ) (state index : List ℕ) : Type 0 where
    pub long_s : length state ≡ 16
    pub long_i : length index ≡ 16
    pub fits : count ≤ i
    pub states : take count state ≡ up_to q i
    pub done : (t : ℕ) → t < i → get_or index t 0 ≡ (if q t then length (up_to q t) else 16)
    pub left : (t : ℕ) → i ≤ t → t < 16 → get_or index t 0 ≡ 16

  pub numbered-none : Numbered 0 0 (replicate 16 0) (replicate 16 16)
  numbered-none = record {
    long_s = length-replicate {A = ℕ} 16 0;
    long_i = length-replicate {A = ℕ} 16 16;
    fits = omega arith;
    states = refl;
    done = λ t h. absurd (omega arith);
    left = λ t h l. get_or-replicate {A = ℕ} 16 t 16 0 l;
  }

  module _ (i count : ℕ) (state index : List ℕ) (h : i < 16) (c : Numbered i count state index) where
    count-is : count ≡ length (up_to q i)
    count-is = sym (length-take-le count state (let l = c.long_s in omega (arith, c.fits))) ∙ ap length c.states

    pub numbered-yes : q i ≡ true → Numbered (i + 1) (count + 1) (set state count i) (set index i count)
    numbered-yes e = record {
      long_s = length-set state count i ∙ c.long_s;
      long_i = length-set index i count ∙ c.long_i;
      fits = omega (arith, c.fits);
      states =
          ap (λ n. take n (set state count i)) (add-one count)
          ∙ take-suc-set state count i (let l = c.long_s in omega (arith, c.fits))
          ∙ ap (λ l. l ++ (i ∷ [])) c.states
          ∙ sym (up_to-yes q i e);
      done = below_more (λ t. get_or (set index i count) t 0 ≡ (if q t then length (up_to q t) else 16)) i
          (λ t b. get_or-set_other index i t count 0 (λ z. omega arith) ∙ c.done t b)
          (get_or-set_same index i count 0 (let l = c.long_i in omega arith) ∙ count-is
          ∙ sym (ap (λ b. if b then length (up_to q i) else 16) e));
      left = λ t b l. get_or-set_other index i t count 0 (λ z. omega arith) ∙ c.left t (omega arith) l;
    }

    pub numbered-no : q i ≡ false → Numbered (i + 1) count state index
    numbered-no e = record {
      long_s = c.long_s;
      long_i = c.long_i;
      fits = omega (arith, c.fits);
      states = c.states ∙ sym (up_to-no q i e);
      done = below_more (λ t. get_or index t 0 ≡ (if q t then length (up_to q t) else 16)) i c.done
          (c.left i (omega arith) h ∙ sym (ap (λ b. if b then length (up_to q i) else 16) e));
      left = λ t b l. c.left t (omega arith) l;
    }

  pub numbered-end : (k count : ℕ) (state index : List ℕ) (C : List ℕ) → k ≤ 16 → C ≡ up_to q k
      → Numbered k count state index → Listed k C (record { count = count; state = state; index = index })
  numbered-end k count state index C h e c = record {
    few = omega (arith, c.fits);
    states = c.states ∙ sym e;
    places = λ t l. c.done t l ∙ go t l (q t) refl ∙ ap (λ x. if elem t x then index_of t x else 16) (sym e);
  }
    where
      go : (t : ℕ) → t < k → (b : Bool) → q t ≡ b
          → (if b then length (up_to q t) else 16) ≡ (if elem t (up_to q k) then index_of t (up_to q k) else 16)
      go t l true u =
          sym (ap (λ b. if b then index_of t (up_to q k) else 16) (elem-kept q k t l ∙ u) ∙ index_kept q k t l u)
      go t l false u = sym (ap (λ b. if b then index_of t (up_to q k) else 16) (elem-kept q k t l ∙ u))
