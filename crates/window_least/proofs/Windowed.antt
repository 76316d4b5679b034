-- The table with its least window, as the code makes it.
-- In order: window-found; windowed-none, windowed-found, whole_with.
-- Assumes nothing.
use Rattle.std.proofs.Common.{◌≡◌, ◌≤◌, ◌<◌}
use Rattle.laws.proofs.All.{sym, ap, subst, ◌∙◌, inl, inr, Bool, true, ℕ, arith, T, le-leb}
use Rattle.laws.proofs.All.{lt-leb, leb}
use Rattle.answer.specs.declared.Refusal.TheVariants.{NoWindow}
use Rattle.answer.specs.Outcomes.{Outcome, done, refused, unless}
use Rattle.answer.proofs.Outcomes.{unless-false}
use Rattle.table.specs.declared.Table.{Table}
use Rattle.table.specs.Rows.{Rows, Code}
use Rattle.table.specs.Value.{rows_in, code_in, Ready}
use Rattle.window.specs.Works.{works}
use Rattle.window.specs.Search.{no_size, window}
use Rattle.window.specs.Steps.{size}
use Rattle.window.proofs.WindowLeast.{window-least, Chosen}
use Rattle.window_least.specs.Windowed.{windowed, with_size, Whole}

-- a window of memory up to 15 works and is small
pub window-found : (t : Rows) → (window t).memory ≤ 15 → ((window t).lookahead < 16) × T (works t (window t))
window-found t h = go (window-least t)
  where
    go : Chosen t (window t) → ((window t).lookahead < 16) × T (works t (window t))
    go (inl (_, a, k, _)) = (a, k)
    go (inr (e, _)) = let z : (window t).memory ≡ 16 = ap (λ z. z.memory) e in absurd (omega arith)

-- ---- the table with its window
passed : (b : Bool) (x : Outcome Code) → b ≡ true → unless NoWindow b x ≡ x
passed b x e = ap (λ c. unless NoWindow c x) e

module _ (t : Table) where
  pub windowed-none : no_size ≡ window (rows_in t) → windowed (code_in t) ≡ refused NoWindow
  windowed-none e =
      let z : 16 ≡ (window (rows_in t)).memory = ap (λ x. x.memory) e in
      unless-false NoWindow _ _ (lt-leb (window (rows_in t)).memory 15 (omega arith))

  module _ (m a : ℕ) (e : size m a ≡ window (rows_in t)) (h : m ≤ 15) where
    small : (window (rows_in t)).memory ≤ 15
    small = subst (λ k. k ≤ 15) (ap (λ x. x.memory) e) h

    -- THEOREM: the table with the window that was found
    pub windowed-found : done (code_in (with_size t m a)) ≡ windowed (code_in t)
    windowed-found =
        ap (λ z. done (record {
          p = t.p;
          q = t.q;
          window = z;
          constraint = (code_in t).constraint;
          start = t.start;
          tail = t.tail;
          table = rows_in t;
        })) e
        ∙ sym (passed (leb (window (rows_in t)).memory 15) _ (le-leb _ _ small))

    pub whole_with : a ≤ 15 → Ready t → Whole (with_size t m a)
    whole_with l r = record {
      ready = record {
        some = r.some;
        few = r.few;
        narrow = r.narrow;
        short = r.short;
        reading = r.reading;
        inside = r.inside;
        limits = r.limits;
      };
      memory = h;
      lookahead = l;
    }
