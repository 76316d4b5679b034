-- The candidates of a split, as keys.
-- In order: first-filter; light-at, held-first, and light-in of a value of the struct `Keys`; others-keys;
-- candidates-keys, and candidates-in of values of the struct.
-- Assumes nothing.
use Rattle.std.proofs.Common.{◌≡◌, ◌||◌, ◌∷◌, ◌-◌, ◌%◌, ◌≤◌, ◌<◌}
use Rattle.laws.proofs.All.{refl, sym, ap, ◌∙◌, Bool, true, false, not, List, [], map, ℕ}
use Rattle.laws.proofs.All.{arith, lt-ltb, ne_eqb, T, length, get_or, take, get_or-take, filter, any, first}
use Rattle.laws.proofs.All.{each_map, each-always, T→true, any-map, first-yes, first-no, and-true, length-take}
use Rattle.laws.proofs.All.{map-take, filter_same, filter_map}
use Rattle.compile_graph.specs.declared.Graph.{Graph}
use Rattle.compile_order.specs.declared.list.Keys.{Keys}
use Rattle.compile_graph.specs.Arcs.{arc, out}
use Rattle.compile_graph.specs.Splitting.{sort, lighter, other, candidates}
use Rattle.compile_graph.specs.Value.{arcs_in, weights_in, Fits}
use Rattle.compile_order.specs.EdgeKeys.{arc_of, keys_from, admitted, first_keys, keys_in}
use Rattle.compile_graph.proofs.Candidates.{any-sort}
use Rattle.compile_order.proofs.KeptKeys.{same-arcs}
use Rattle.compile_order.proofs.EdgeOrder.{sort-keys, keys-small, weights-small}

-- the first that passes, of a list with one that does
first-filter : {A B : Type 0} (p : B → Bool) (d : B) (f : A → B) (e : A) (l : List A) → any (λ x. p (f x)) l ≡ true
    → (x : A) × (take 1 (filter (λ x. p (f x)) l) ≡ x ∷ []) × (first p d (map f l) ≡ f x)
first-filter p d f e [] h = absurd (let z : ◌≡◌ {A = ℕ} 0 1 = cc in omega arith)
first-filter p d f e (x ∷ l) h = go (p (f x)) refl h (first-filter p d f e l)
  where
    go : (b : Bool) → p (f x) ≡ b → (b || any (λ x. p (f x)) l) ≡ true
        → (any (λ x. p (f x)) l ≡ true → (y : _) × (take 1 (filter (λ x. p (f x)) l) ≡ y ∷ [])
        × (first p d (map f l) ≡ f y))
        → (y : _) × (take 1 (filter (λ x. p (f x)) (x ∷ l)) ≡ y ∷ []) × (first p d (map f (x ∷ l)) ≡ f y)
    go true q u r = (x, rw q, first-yes p d (f x) (map f l) q)
    go false q u r = let (y, a, b) = r u in (y, rw q a, first-no p d (f x) (map f l) q ∙ b)

module _ (g : Graph) (s : ℕ) (fits : Fits g) (M : ℕ) (some : T (any (lighter (weights_in g) M) (out (arcs_in g) s)))
  where
    abbrev v : List ℕ
    v = weights_in g

    abbrev ks : List ℕ
    ks = keys_from (arcs_in g) s

    light-filter : filter (admitted v M 65535) ks ≡ filter (λ k. lighter v M (arc_of s k)) ks
    light-filter =
        filter_same (admitted v M 65535) (λ k. lighter v M (arc_of s k)) ks
        (each_map (λ k. k < 32768) _ (λ k h. rw (ne_eqb k 65535 (λ e. omega arith)) (and-true _)) ks
        (keys-small g s fits))

    light-any : any (λ k. lighter v M (arc_of s k)) ks ≡ true
    light-any =
        sym (any-map (lighter v M) (arc_of s) ks) ∙ ap (any (lighter v M)) (sym (sort-keys g s fits))
        ∙ T→true (any (lighter v M) (sort (out (arcs_in g) s))) (any-sort (lighter v M) (out (arcs_in g) s) some)

    pub light-at : (r : List ℕ) → r ≡ first_keys g s M 65535 1
        → (0 < length r) × (first (lighter v M) (arc 0 0 0) (sort (out (arcs_in g) s)) ≡ arc_of s (get_or r 0 0))
    unfolding first_keys
    light-at r e =
        let (x, a, b) = first-filter (lighter v M) (arc 0 0 0) (arc_of s) 0 ks light-any in
        let q : r ≡ x ∷ [] = e ∙ ap (take 1) light-filter ∙ a in
        (rw q (omega arith), rw (sort-keys g s fits, q) b)

    -- the first key of a value of the struct is the first of its keys
    held-first : (r : Keys) → keys_in r ≡ first_keys g s M 65535 1 → get_or (keys_in r) 0 0 ≡ get_or r.key 0 0
    held-first r e =
        let l : 0 < r.count = omega (arith, (light-at (keys_in r) e).0, length-take r.count r.key) in
        get_or-take r.count r.key 0 0 l

    pub light-in : (r : Keys) → keys_in r ≡ first_keys g s M 65535 1 → r.count ≤ 1
        → first (lighter v M) (arc 0 0 0) (sort (out (arcs_in g) s)) ≡ arc_of s (get_or r.key 0 0)
    light-in r e h = (light-at (keys_in r) e).1 ∙ ap (arc_of s) (held-first r e)

    passes : (l k : ℕ) → admitted v 256 l k ≡ other (arc_of s l) (arc_of s k)
    passes l k = rw (lt-ltb (get_or v (k % 128) 0) 256 (weights-small g s fits (k % 128)))
        (sym (ap not (same-arcs s k l)))

    others-keys : (l n : ℕ) → map (arc_of s) (first_keys g s 256 l n)
        ≡ take n (filter (other (arc_of s l)) (sort (out (arcs_in g) s)))
    unfolding first_keys
    others-keys l n =
        rw (sort-keys g s fits, map-take (arc_of s) n, filter_map (other (arc_of s l)) (arc_of s) ks)
        (ap (λ x. take n (map (arc_of s) x)) (filter_same (admitted v 256 l) _ ks (each-always _ (passes l) ks)))

    pub candidates-keys : (n : ℕ) (light others r : List ℕ) → light ≡ first_keys g s M 65535 1
        → others ≡ first_keys g s 256 (get_or light 0 0) (n - 1) → r ≡ get_or light 0 0 ∷ others
        → map (arc_of s) r ≡ candidates n v M (sort (out (arcs_in g) s))
    candidates-keys n light others r a b e =
        rw ((light-at light a).1, e, b)
        (ap (λ x. arc_of s (get_or light 0 0) ∷ x) (others-keys (get_or light 0 0) (n - 1)))

    pub candidates-in : (n : ℕ) (light others r : Keys) → keys_in light ≡ first_keys g s M 65535 1 → light.count ≤ 1
        → keys_in others ≡ first_keys g s 256 (get_or light.key 0 0) (n - 1)
        → keys_in r ≡ get_or light.key 0 0 ∷ keys_in others
        → map (arc_of s) (keys_in r) ≡ candidates n v M (sort (out (arcs_in g) s))
    candidates-in n light others r a h b e =
        let f = held-first light a in
        candidates-keys n (keys_in light) (keys_in others) (keys_in r) a (rw f b) (rw f e)
