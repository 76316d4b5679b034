-- `lowest_bits` meets its contract.
use Rattle.std.proofs.Common.{◌≡◌, ◌-◌, ◌*◌, ◌%◌, ◌^◌, ◌<◌}
use Rattle.laws.proofs.All.{ap, ◌∙◌, ℕ, one-mul, arith, lit<, shl_exact, pow_pos}
use Rattle.bitsets.proofs.lowest_bits.Goals as goal

-- the bit is not shifted out
shifted : (k : ℕ) → k < 64 → 1 * 2 ^ k % 2 ^ 64 ≡ 2 ^ k
shifted k h = shl_exact {a = 1} 1 k 64 (lit< tt) (omega arith) ∙ one-mul (2 ^ k)

pub overflow_sub-result : goal.overflow_sub-result
overflow_sub-result c =
    let k = c.args.k in
    let e = shifted k c.requires in
    omega (arith, pow_pos k)

pub returns : goal.returns
returns c = record { answer = ap (λ x. x - 1) (shifted c.args.k c.requires) }
