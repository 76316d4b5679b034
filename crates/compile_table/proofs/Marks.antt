-- Sets of states in arrays: marking, and how many are not done.
-- In order: any-take-more, mark-more; missing-put; open-set, open_done.
-- Assumes nothing.
use Rattle.std.proofs.Common.{◌≡◌, ◌&&◌, ◌||◌, ◌+◌, ◌%◌, ◌<◌}
use Rattle.laws.proofs.All.{refl, sym, ap, subst, ◌∙◌, inl, inr, Bool, true, false, not, or-false}
use Rattle.laws.proofs.All.{or_assoc, List, ℕ, add-one, arith, T, eqb, length, get_or, take, set}
use Rattle.laws.proofs.All.{length-set, take-suc, get_or-set_same, any, member, →or_l, any_append, missing, grow-sub}
use Rattle.laws.proofs.All.{put-member}
use Rattle.compile_table.specs.Finishing.{entered_by}

-- ---- marking
pub any-take-more : (p : ℕ → Bool) (L : List ℕ) (i : ℕ) → i < length L
    → any p (take (i + 1) L) ≡ (any p (take i L) || p (get_or L i 0))
any-take-more p L i h =
    rw (add-one, take-suc L i 0, any_append p) (ap (λ b. any p (take i L) || b) (or-false (p (get_or L i 0))))

pub mark-more : (S R : List Bool) (K : List ℕ) (i : ℕ) → length R ≡ 128 → i < length K → get_or K i 0 % 128 < 128
    → ((x : ℕ) → member R x ≡ (member S x || any (entered_by x) (take i K)))
    → (x : ℕ) → member (set R (get_or K i 0 % 128) true) x ≡ (member S x || any (entered_by x) (take (i + 1) K))
mark-more S R K i l h b f x =
    put-member R (get_or K i 0 % 128) x (rw l b)
    ∙ rw (f x, any-take-more (entered_by x) K i h) (or_assoc (member S x) (any (entered_by x) (take i K)) _)

-- ---- one more state is done
pub missing-put : (D : List Bool) (s : ℕ) → s < length D → member D s ≡ false → missing (set D s true) < missing D
missing-put D s l e =
    elim (grow-sub D (set D s true) (sym (length-set D s true)) kept) [
      | inl q ↦ absurd (subst T (sym (get_or-set_same D s true false l) ∙ ap (λ R. member R s) q ∙ e) tt)
      | inr k ↦ k
    ]
  where
    kept : (i : ℕ) → T (member D i) → T (member (set D s true) i)
    kept i t = rw (put-member D s i l) (→or_l (member D i) (eqb s i) t)

pub open-set : (a b : Bool) → (a && not b) ≡ true → T a
open-set true b e = tt
open-set false b e = absurd (let z : ◌≡◌ {A = ℕ} 0 1 = cc in omega arith)

pub open_done : (a b : Bool) → (a && not b) ≡ true → b ≡ false
open_done true false e = refl
open_done true true e = absurd (let z : ◌≡◌ {A = ℕ} 0 1 = cc in omega arith)
open_done false b e = absurd (let z : ◌≡◌ {A = ℕ} 0 1 = cc in omega arith)
