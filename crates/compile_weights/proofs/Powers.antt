-- The power table of a constraint by value holds the words that the constraint allows.
-- In order: held-powers, held-tabled.
-- Assumes nothing.
use Rattle.std.proofs.Common.{◌≡◌, ◌+◌, ◌*◌, ◌^◌, ◌≤◌, ◌<◌}
use Rattle.laws.proofs.All.{sym, ap, ap₂, subst, ◌∙◌, List, ℕ, arith, length, get_or}
use Rattle.laws.proofs.All.{length-map, pow_mono, inl}
use Rattle.constraint.specs.Walking.{Target, Well, walk}
use Rattle.constraint.specs.declared.Constraint.{Constraint}
use Rattle.constraint.specs.Value.{constraint_of}
use Rattle.constraint.specs.PowerTable.{power_codes, code_of, power_table}
use Rattle.constraint.proofs.Walking.{walk_target}
use Rattle.constraint.proofs.Values.{length-constraint_of}
use Rattle.constraint.proofs.PowerTable.{codes_at, length-power}
use Rattle.compile_graph.specs.Arcs.{power}
use Rattle.compile_weights.specs.PowerTable.{tabled, Powers}
use Rattle.compile_weights.proofs.TabledWords.{tabled-power}

module _ (c : Constraint) (q : ℕ) (few : c.states ≤ 16) (short : q ≤ 8) (well : Well (constraint_of c)) where
  words-few : 2 ^ q ≤ 256
  words-few = let h : 2 ^ q ≤ 2 ^ 8 = pow_mono short in omega arith

  leads : (s w : ℕ) → s < c.states → w < 2 ^ q
      → get_or (power_codes (constraint_of c) q) (s * 256 + w) 0 ≡ walk (constraint_of c) q w s
  leads s w h l = codes_at (constraint_of c) q s w words-few (rw (length-constraint_of c) h) (omega arith) l

  powers : Powers (power_codes (constraint_of c) q) (2 ^ q) c.states
  powers = record {
    long = length-map (power_table (constraint_of c) q) code_of ∙ length-power (constraint_of c) q;
    states = few;
    few = words-few;
    leads = λ s w h l.
        let K = length-constraint_of c in
        let h' : s < length (constraint_of c) = rw K h in
        subst (λ k. Target k (get_or (power_codes (constraint_of c) q) (s * 256 + w) 0)) K
        (subst (Target (length (constraint_of c))) (sym (leads s w h l))
        (walk_target (constraint_of c) well q w s (inl h')));
  }

  tabled-is : tabled (power_codes (constraint_of c) q) (2 ^ q) c.states ≡ power (constraint_of c) q
  tabled-is =
      let K = length-constraint_of c in
      ap (tabled (power_codes (constraint_of c) q) (2 ^ q)) (sym K)
      ∙ tabled-power (constraint_of c) q (power_codes (constraint_of c) q) (λ s w h l. leads s w (rw K at h) l)

  -- the same of the table that the code holds
  module _ (P : List ℕ) (words : ℕ) (e : P ≡ power_codes (constraint_of c) q) (f : words ≡ 2 ^ q) where
    pub held-powers : Powers P words c.states
    held-powers =
        subst (λ X. Powers X words c.states) (sym e)
        (subst (λ w. Powers (power_codes (constraint_of c) q) w c.states) (sym f) powers)

    pub held-tabled : tabled P words c.states ≡ power (constraint_of c) q
    held-tabled = ap₂ (λ X w. tabled X w c.states) e f ∙ tabled-is
