-- What obligations cost: a literal that serves one at most 539, and what one asks at most as much for each constructor of
-- its delta.
use Rattle.std.proofs.Common.{◌≡◌, ℕ, suc, ◌+◌, ◌*◌, ◌≤◌, ◌||◌, ℤ, neg_ℤ, Bool, true, false, cond, List, [], ◌∷◌, fold, length, Option, None, Some, refl, ap, arith, suc-mul}
use Rattle.std.specs.List.{range_with_len, sum_by}
use Rattle.std.proofs.lemmas.List.FromFn.{length-range_with_len}
use Rattle.std.proofs.lemmas.List.Sums.{sum_by-cons}
use Rattle.alternating_theory.specs.Obligations.{Automaton, Obligation, obligation_at}
use Rattle.alternating_theory.specs.Positive as positives
use Rattle.alternating_theory.specs.Positive.{Positive}
use Rattle.bounded_theory.specs.Digits.{number_width}
use Rattle.bounded_theory.proofs.Digits.{width-few}
use Rattle.clauses.specs.Literals.{clause_words}
use Rattle.gates_letters.specs.Booleans.{boolean_built, constant_built, edge_built}
use Rattle.gates_letters.specs.Combinations.{combination_by}
use Rattle.gates_frames.specs.Frames.{literal_at}
use Rattle.gates_nodes.specs.declared.cover.Cover.{Cover}
use Rattle.gates_nodes.specs.declared.node.Node.{Node}
use Rattle.gates_nodes.specs.Folding.{Built, conjoined, either}
use Rattle.gates_theory.proofs.Sizes.{length-following, words-append, words-cons}
use Rattle.psl_tree.specs.Counts.{boolean_size}
use Rattle.psl_tree.specs.Trees as trees
use Rattle.psl_tree.specs.Trees.{Boolean}
use Rattle.psl_tree.specs.declared.atom.Edge.{Edge}
use Rattle.psl_tree.specs.declared.atom.Edge.TheVariants.{Value, Rise, Fall}
use Rattle.run_terms.specs.Sizes.{constructors, positive_size}
use Rattle.bounded.specs.Obligations.{Asked, digit_exceeds, exceeds, falls, literals_before, not_less, obligation_built, served, unless_exceeded, with_obligation, with_place, with_places}
use Rattle.bounded.specs.Places.{bits_before, digits_of, number_at, owed_at, place_bits}
use Rattle.bounded.proofs.Costs.{PartCosts, conjoined-costs, costs, either-costs, joined-costs}
use Rattle.bounded.proofs.Framed.{digits-most}
use Rattle.bounded.proofs.Ordered.{sum-places}

module _ (covers : List Cover) where
  -- letters
  constant-costs : (value : Bool) → PartCosts covers 0 (constant_built 0 value)
  constant-costs true nodes = omega arith
  constant-costs false nodes = omega arith

  edge-costs : (before : Option (List ℤ)) (now : List ℤ) (edge : Edge) (signal : ℕ) → PartCosts covers 11 (edge_built 0 before now edge signal)
  edge-costs before now Value signal nodes = omega arith
  edge-costs None now Rise signal nodes = omega arith
  edge-costs None now Fall signal nodes = omega arith
  edge-costs (Some before) now Rise signal nodes = conjoined-costs covers nodes (neg_ℤ (literal_at 0 before signal)) (literal_at 0 now signal)
  edge-costs (Some before) now Fall signal nodes = conjoined-costs covers nodes (literal_at 0 before signal) (neg_ℤ (literal_at 0 now signal))

  module _ (before : Option (List ℤ)) (now : List ℤ) where
    boolean-costs : (test : Boolean) → PartCosts covers (11 * boolean_size test) (boolean_built 0 before now test)
    boolean-costs (trees.Const value) nodes = omega (arith, constant-costs value nodes)
    boolean-costs (trees.Test atom) nodes = edge-costs before now atom.edge atom.signal nodes
    boolean-costs (trees.Not part) nodes = omega (arith, boolean-costs part nodes)
    boolean-costs (trees.And left right) nodes =
        let made = joined-costs covers (conjoined 0) (boolean_built 0 before now left) (boolean_built 0 before now right) (11 * boolean_size left) (11 * boolean_size right)
        (conjoined-costs covers) (boolean-costs left) (boolean-costs right) nodes in
        omega (arith, made)
    boolean-costs (trees.Or left right) nodes =
        let made = joined-costs covers (either 0) (boolean_built 0 before now left) (boolean_built 0 before now right) (11 * boolean_size left) (11 * boolean_size right)
        (either-costs covers) (boolean-costs left) (boolean-costs right) nodes in
        omega (arith, made)

    -- combinations, where a literal of the next place costs at most so much
    module _ (later : ℕ → List Node → Built) (each : (number : ℕ) → PartCosts covers 539 (later number)) where
      combination-costs : (positive : Positive) → PartCosts covers (539 * positive_size positive) (combination_by 0 before now later positive)
      combination-costs (positives.Const value) nodes = omega (arith, constant-costs value nodes)
      combination-costs (positives.Holds test) nodes = omega (arith, boolean-costs test nodes)
      combination-costs (positives.Owed number) nodes = each number nodes
      combination-costs (positives.And left right) nodes =
          let made = joined-costs covers (conjoined 0) (combination_by 0 before now later left) (combination_by 0 before now later right)
          (539 * positive_size left) (539 * positive_size right) (conjoined-costs covers) (combination-costs left) (combination-costs right) nodes in
          omega (arith, made)
      combination-costs (positives.Or left right) nodes =
          let made = joined-costs covers (either 0) (combination_by 0 before now later left) (combination_by 0 before now later right)
          (539 * positive_size left) (539 * positive_size right) (either-costs covers) (combination-costs left) (combination-costs right) nodes in
          omega (arith, made)

  -- numbers are compared by four conjunctions a digit
  less-costs : (exceeded first second : ℤ) → PartCosts covers 22 (not_less exceeded first second)
  less-costs exceeded first second nodes =
      let part = either 0 nodes first (neg_ℤ second) in
      omega (arith, either-costs covers nodes first (neg_ℤ second), conjoined-costs covers part.nodes exceeded part.output)

  digit-costs : (exceeded first second : ℤ) → PartCosts covers 44 (digit_exceeds exceeded first second)
  digit-costs exceeded first second nodes =
      let made = joined-costs covers (either 0) (λ others. conjoined 0 others first (neg_ℤ second)) (not_less exceeded first second) 11 22
      (either-costs covers) (λ others. conjoined-costs covers others first (neg_ℤ second)) (less-costs exceeded first second) nodes in
      omega (arith, made)

  exceeds-costs : (firsts seconds : List ℤ) (equal : ℤ) → PartCosts covers (44 * length firsts) (exceeds equal firsts seconds)
  exceeds-costs [] seconds equal nodes = omega arith
  exceeds-costs (first ∷ firsts) [] equal nodes = omega arith
  exceeds-costs (first ∷ firsts) (second ∷ seconds) equal nodes =
      let part = digit_exceeds equal first second nodes in
      omega (arith, digit-costs equal first second nodes, exceeds-costs firsts seconds part.output part.nodes)

  module _ (a : Automaton) (few : length a.obligations ≤ 2048) (n before : ℕ) where
    number-short : (p r : ℕ) → length (number_at a before p r) ≤ 12
    number-short p r =
        let width = number_width (length a.obligations) in
        omega (
          arith,
          length-following (suc (before + p * place_bits a + bits_before a r)) (digits_of width (obligation_at a.obligations r)),
          digits-most width (obligation_at a.obligations r),
          width-few (length a.obligations) few,
        )

    served-costs : (p q r : ℕ) → PartCosts covers 539 (served a n before p q r)
    served-costs p q r nodes = by ((obligation_at a.obligations q).accepting || (obligation_at a.obligations r).accepting)
      where
        by : (b : Bool) → costs covers (cond b (record { nodes = nodes; output = owed_at a before (suc p) r })
            (unless_exceeded (owed_at a before (suc p) r) (exceeds (falls n p) (number_at a before (suc p) r) (number_at a before p q) nodes))).nodes ≤ costs covers nodes + 539
        by true = omega arith
        by false =
            let part = exceeds (falls n p) (number_at a before (suc p) r) (number_at a before p q) nodes in
            omega (
              arith,
              exceeds-costs (number_at a before (suc p) r) (number_at a before p q) (falls n p) nodes,
              number-short (suc p) r,
              conjoined-costs covers part.nodes (owed_at a before (suc p) r) (neg_ℤ part.output),
            )

    -- nodes and clauses together
    abbrev pub asked_costs : Asked → ℕ
    asked_costs now = costs covers now.nodes + clause_words now.clauses

    steps-costs : {X : Type 0} → (step : Asked → X → Asked) (most : X → ℕ) → ((now : Asked) (x : X) → asked_costs (step now x) ≤ asked_costs now + most x)
        → (xs : List X) (now : Asked) → asked_costs (fold step now xs) ≤ asked_costs now + sum_by most xs
    steps-costs step most each [] now = omega arith
    steps-costs step most each (x ∷ xs) now = omega (arith, each now x, steps-costs step most each xs (step now x), sum_by-cons most x xs)

    module _ (frames : ℕ → List ℤ) where
      abbrev obligation_most : Obligation → ℕ
      obligation_most obligation = 539 * positive_size obligation.delta + 3

      obligation-costs : (p : ℕ) (now : Asked) (q : ℕ) → asked_costs (with_obligation a frames n before p now q) ≤ asked_costs now + obligation_most (obligation_at a.obligations q)
      obligation-costs p now q =
          let made = combination-costs (literals_before frames p) (frames p) (served a n before p q) (served-costs p q) (obligation_at a.obligations q).delta now.nodes in
          let built = obligation_built a frames n before p q now.nodes in
          let clause = neg_ℤ (owed_at a before p q) ∷ built.output ∷ [] in
          omega (arith, made, words-append now.clauses (clause ∷ []), words-cons clause [])

      all-most : (obligations : List Obligation) → sum_by obligation_most obligations ≡ 539 * sum_by (λ o. positive_size o.delta) obligations + 3 * length obligations
      all-most [] = refl
      all-most (o ∷ os) = omega (arith, sum_by-cons obligation_most o os, sum_by-cons (λ (x : Obligation). positive_size x.delta) o os, all-most os)

      abbrev pub place_cost : ℕ
      place_cost = 539 * constructors a + 3 * length a.obligations

      place-costs : (now : Asked) (p : ℕ) → asked_costs (with_place a frames n before now p) ≤ asked_costs now + place_cost
      place-costs now p =
          let f : ℕ → ℕ = λ q. obligation_most (obligation_at a.obligations q) in
          let numbers = range_with_len 0 (length a.obligations) in
          omega (
            arith,
            steps-costs (with_obligation a frames n before p) f (obligation-costs p) numbers now,
            sum-places obligation_most (λ others k. obligation_most (obligation_at others k)) (λ x xs. refl) (λ x xs k. refl) a.obligations f 0 (λ k. let e : 0 + k ≡ k = omega arith in ap f e),
            all-most a.obligations,
          )

      places-sum : (places : List ℕ) (now : Asked) → asked_costs (fold (with_place a frames n before) now places) ≤ asked_costs now + length places * place_cost
      places-sum [] now = omega arith
      places-sum (p ∷ places) now =
          let next = with_place a frames n before now p in
          omega (arith, place-costs now p, places-sum places next, suc-mul (length places) place_cost)

      pub places-asked : (nodes : List Node) → asked_costs (with_places a frames n before nodes) ≤ costs covers nodes + suc n * place_cost
      places-asked nodes =
          let product = ap (λ k. k * place_cost) (length-range_with_len 0 (suc n)) in
          omega (arith, places-sum (range_with_len 0 (suc n)) (record { nodes = nodes; clauses = [] }), product)
