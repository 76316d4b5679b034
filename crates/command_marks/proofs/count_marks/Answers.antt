-- `count_marks` meets its contract: one more block passed is one more mark, or none.
use Rattle.std.proofs.Common.{◌+◌, ◌≡◌, ◌≤◌, Bool, true, false, ℕ}
use Rattle.laws.proofs.All.{refl, sym, ap, ap₂, ◌∙◌, arith, eqb, one, tot-take-more, get_or}
use mir.Val.{bool_byte}
use Rattle.command_marks.proofs.count_marks.Goals as goal

-- a test as a number is what is counted of the block
one-byte : (m x n : ℕ) → n ≡ bool_byte (eqb m x) → (n ≡ one (eqb m) x) × (n ≤ 1)
one-byte m x n e = go (eqb m x) refl
  where
    go : (b : Bool) → eqb m x ≡ b → (n ≡ one (eqb m) x) × (n ≤ 1)
    go true k = let h : n ≡ 1 = e ∙ ap bool_byte k in (h ∙ rw (k) refl, omega arith)
    go false k = let h : n ≡ 0 = e ∙ ap bool_byte k in (h ∙ rw (k) refl, omega arith)

pub loop-block-preserved : goal.loop-block-preserved
loop-block-preserved c =
    let l = c.loop-block in
    let a = c.args in
    let (e, h) = one-byte a.mark (get_or a.blocks.now l.block-index 0) c.from-n.result c.from-n.ensures in (
      omega arith,
      ap₂ (λ x y. x + y) l.invariant.1 e
          ∙ sym (tot-take-more 0 (one (eqb a.mark)) a.blocks.now l.block-index c.loop-block-test.true),
    )
