-- The clauses of a search have literals of its variables alone.
use Rattle.std.proofs.Common.{ℕ, suc, ◌<◌, ◌≤◌, ℤ, neg_ℤ, true, ◌&&◌, [], ◌∷◌, ◌++◌, map, get_or, refl, ◌∙◌, arith}
use Rattle.std.specs.Bool.{IsTrue}
use Rattle.std.specs.List.{flat_map, list_all, range_with_len}
use Rattle.std.proofs.lemmas.Bool.{and_from}
use Rattle.std.proofs.lemmas.List.Folds.{list_all-append}
use Rattle.alternating_theory.specs.Obligations.{Automaton}
use Rattle.clauses.specs.Literals.{clause_within, clauses_within, is_within}
use Rattle.gates_covers.specs.Greedy.{covers_of}
use Rattle.gates_frames.specs.Frames.{literal_at}
use Rattle.gates_frames.proofs.Shown.{at_within}
use Rattle.gates_letters.proofs.Growing.{more-extends}
use Rattle.gates_nodes.specs.Nodes.{variables_of}
use Rattle.gates_nodes.proofs.Literals.{more_within, wider_literal}
use Rattle.gates_nodes.proofs.Sizes.{formula-within}
use Rattle.gates_theory.proofs.Within.{negated_within}
use Rattle.netlist.specs.Design.{Design, free_of}
use Rattle.run_terms.proofs.Ranges.{below-all}
use Rattle.bounded.specs.Places.{begins_at, bit_at, owed_at, place_bits}
use Rattle.bounded.specs.Searches.{asked_clauses, asked_of, before_places, closing_clauses, first_clauses, free_in, literals_of, placed_nodes, same_frames, same_places, same_under, search_clauses, search_cone, search_variables}
use Rattle.bounded.proofs.Blocks.{begins-in, bit-in, owed-in}
use Rattle.bounded.proofs.Clauses.{each-filter, each-flat, each-range}
use Rattle.bounded.proofs.Cones.{Premises}
use Rattle.bounded.proofs.Frames.{so, start-few, start-within}

three : (k : ℕ) (x y z : ℤ) → IsTrue (is_within k x) → IsTrue (is_within k y) → IsTrue (is_within k z) → IsTrue (clause_within k (x ∷ y ∷ z ∷ []))
three k x y z one two rest = more_within k x (y ∷ z ∷ []) one (more_within k y (z ∷ []) two (more_within k z [] rest refl))

same-within : (k : ℕ) (g x y : ℤ) → IsTrue (is_within k g) → IsTrue (is_within k x) → IsTrue (is_within k y) → IsTrue (list_all (clause_within k) (same_under g x y))
same-within k g x y guard first second =
    let a = neg_ℤ g ∷ neg_ℤ x ∷ y ∷ [] in
    let b = neg_ℤ g ∷ x ∷ neg_ℤ y ∷ [] in
    and_from (clause_within k a) (clause_within k b && true)
    (three k (neg_ℤ g) (neg_ℤ x) y (negated_within k g guard) (negated_within k x first) second)
    (and_from (clause_within k b) true (three k (neg_ℤ g) x (neg_ℤ y) (negated_within k g guard) first (negated_within k y second)) refl)

module _ (d : Design) (a : Automaton) (on : Premises d a) (n : ℕ) where
  abbrev V : ℕ
  V = search_variables d a n

  abbrev V0 : ℕ
  V0 = variables_of 0 (placed_nodes d a n)

  abbrev B : ℕ
  B = before_places d a n

  pub more : V0 ≤ V
  more = let s = so d a on n in more-extends 0 (placed_nodes d a n) (asked_of d a n).nodes (record { more = s.more; is = s.grown })

  wide : (l : ℤ) → IsTrue (is_within V0 l) → IsTrue (is_within V l)
  wide l within = wider_literal V0 V more l within

  begins-within : (p : ℕ) → p < n → IsTrue (is_within V (begins_at a n B p))
  begins-within p low = wide (begins_at a n B p) (begins-in a n B V0 (start-few d a on n) p low)

  bits-within : (p k : ℕ) → p < suc (suc n) → k < place_bits a → IsTrue (is_within V (bit_at a B p k))
  bits-within p k low below = wide (bit_at a B p k) (bit-in a n B V0 (start-few d a on n) p k low below)

  literals-in : (p s : ℕ) → p ≤ n → IsTrue (is_within V (literal_at 0 (literals_of d a p) s))
  literals-in p s few =
      wide (literal_at 0 (literals_of d a p) s) (at_within V0 0 (literals_of d a p) s (omega arith) (start-within d a on n p few))

  closing-within : (p : ℕ) → p < n → IsTrue (list_all (clause_within V) (closing_clauses d a n B p))
  closing-within p low =
      let test = clause_within V in
      let g = begins_at a n B p in
      let frame = λ (s : ℕ). same_under g (literal_at 0 (literals_of d a p) s) (literal_at 0 (literals_of d a n) s) in
      let place = λ (k : ℕ). same_under g (bit_at a B (suc p) k) (bit_at a B (suc n) k) in
      list_all-append test (same_frames d a n B p) (same_places a n B p)
      ∙ and_from (list_all test (same_frames d a n B p)) (list_all test (same_places a n B p))
      (each-flat test frame (free_in d a) (each-filter (search_cone d a) (λ s. IsTrue (list_all test (frame s))) (free_of d)
      (λ i e below inside. same-within V g (literal_at 0 (literals_of d a p) (get_or (free_of d) i e)) (literal_at 0 (literals_of d a n) (get_or (free_of d) i e)) (begins-within p low) (literals-in p (get_or (free_of d) i e) (omega arith)) (literals-in n (get_or (free_of d) i e) (omega arith)))))
      (each-flat test place (range_with_len 0 (place_bits a)) (each-range (λ k. IsTrue (list_all test (place k))) (place_bits a)
      (λ k below. same-within V g (bit_at a B (suc p) k) (bit_at a B (suc n) k) (begins-within p low) (bits-within (suc p) k (omega arith) below) (bits-within (suc n) k (omega arith) below))))

  pub asked-within : IsTrue (clauses_within V (asked_clauses d a n))
  asked-within =
      let test = clause_within V in
      let front = first_clauses a n B in
      let closings = flat_map (closing_clauses d a n B) (range_with_len 0 n) in
      let rest = closings ++ (asked_of d a n).clauses in
      let loops = map (begins_at a n B) (range_with_len 0 n) in
      let start = owed_at a B 0 a.start in
      list_all-append test front rest
      ∙ and_from (list_all test front) (list_all test rest)
      (and_from (test (start ∷ [])) (test loops && true)
      (more_within V start [] (wide start (owed-in a n B V0 (start-few d a on n) 0 a.start (omega arith) on.good.start)) refl)
      (and_from (test loops) true (below-all (is_within V) (begins_at a n B) n begins-within) refl))
      (list_all-append test closings (asked_of d a n).clauses
      ∙ and_from (list_all test closings) (list_all test (asked_of d a n).clauses)
      (each-flat test (closing_clauses d a n B) (range_with_len 0 n) (each-range (λ p. IsTrue (list_all test (closing_clauses d a n B p))) n closing-within))
      (so d a on n).within)

  pub search-within : IsTrue (clauses_within (search_variables d a n) (search_clauses d a n))
  search-within = formula-within (covers_of d.tables) 0 (asked_of d a n).nodes (asked_clauses d a n) (so d a on n).fine asked-within
