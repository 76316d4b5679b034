-- The folder of a path, byte by byte from its end.
-- In order: folder-here, folder-back.
-- Assumes nothing.
use Rattle.std.proofs.Common.{◌≡◌, ◌-◌, ◌<◌, if◌then◌else◌}
use Rattle.laws.proofs.All.{sym, ap, subst, ◌∙◌, List, ℕ, zero, suc, arith, get_or}
use Rattle.laws.proofs.All.{eq-eqb, ne_eqb}
use Rattle.command_store.specs.Storing.{folder_in}

pub folder-here : (n : ℕ) (path : List ℕ) → 0 < n → get_or path (n - 1) 0 ≡ 47 → folder_in n path ≡ n
unfolding folder_in
folder-here zero path h e = absurd (omega arith)
folder-here (suc n) path h e =
    let p : suc n - 1 ≡ n = omega arith in
    ap (λ b. if b then suc n else folder_in n path)
    (eq-eqb (get_or path n 0) 47 (subst (λ k. get_or path k 0 ≡ 47) p e))

pub folder-back : (n : ℕ) (path : List ℕ) → 0 < n → (get_or path (n - 1) 0 ≡ 47 → ⊥)
    → folder_in n path ≡ folder_in (n - 1) path
unfolding folder_in
folder-back zero path h e = absurd (omega arith)
folder-back (suc n) path h e =
    let p : suc n - 1 ≡ n = omega arith in
    ap (λ b. if b then suc n else folder_in n path)
    (ne_eqb (get_or path n 0) 47 (subst (λ k. (get_or path k 0 ≡ 47 → ⊥)) p e))
    ∙ ap (λ k. folder_in k path) (sym p)
