-- How many variables and words a search has at most. With the netlist's inputs, latches and tables, and the marks M of
-- these; with the constructors C of the deltas of m obligations, whose numbers have at most 12 digits:
--
--   a frame                             inputs + latches + 487 * tables + 22 * M
--   what is asked at a place            539 * C + 3 * m
--   the bits of a place                 13 * m
--   what closes the loop at a place     8 * (inputs + latches) + 8 * 13 * m
--
-- are at most 1,000 times the signals, M, 64 and C together, for each valuation and one more.
use Rattle.std.proofs.Common.{◌≡◌, ℕ, suc, ◌+◌, ◌*◌, ◌≤◌, ℤ, neg_ℤ, not, List, [], ◌∷◌, ◌++◌, map, length, refl, ap, arith, suc-mul, length-append}
use Rattle.std.specs.List.{flat_map, range_with_len}
use Rattle.std.proofs.lemmas.List.{length-map}
use Rattle.std.proofs.lemmas.List.Concat.{flat_map-cons}
use Rattle.std.proofs.lemmas.List.Filters.{length-filter_both}
use Rattle.std.proofs.lemmas.List.FromFn.{length-map-range_with_len, length-range_with_len}
use Rattle.std.proofs.lemmas.List.Sums.{sum_by-append}
use Rattle.std.proofs.Math.Nat.{mul-le-mul_left}
use Rattle.alternating_theory.specs.Obligations.{Automaton}
use Rattle.clauses.specs.Literals.{clause_words}
use Rattle.gates_covers.specs.Greedy.{covers_of}
use Rattle.gates_frames.specs.Frames.{literal_at}
use Rattle.gates_nodes.specs.declared.cover.Cover.{Cover}
use Rattle.gates_nodes.specs.Clauses as nodes
use Rattle.gates_nodes.specs.Nodes.{yes}
use Rattle.gates_theory.proofs.Sizes.{words-append, words-cons}
use Rattle.netlist.specs.declared.latch.Latch.{Latch}
use Rattle.netlist.specs.Design.{Design, free_of}
use Rattle.netlist.specs.Sound.{IsSound}
use Rattle.run_terms.specs.Sizes.{constructors, formula_bulk as search_bulk}
use Rattle.run_terms.proofs.Driven.{driven-few}
use Rattle.run_terms.proofs.FormulaSizes.{constructors-many}
use Rattle.bounded.specs.Places.{begins_at, bit_at, owed_at, place_bits, place_nodes}
use Rattle.bounded.specs.Searches.{asked_clauses, asked_of, before_places, closing_clauses, first_clauses, free_in, literals_of, placed_nodes, same_frames, same_places, same_under, search_clauses, search_cone, search_frame, search_variables}
use Rattle.bounded.proofs.Costs.{asked-words, cost, costs, nodes-few}
use Rattle.bounded.proofs.Framed.{frame_most, place-most, places-costs, search_frame-costs}
use Rattle.bounded.proofs.Owing.{asked_costs, place_cost, places-asked}

-- clauses
under-words : (guard first second : ℤ) → clause_words (same_under guard first second) ≡ 8
under-words guard first second =
    omega (
      arith,
      words-cons (neg_ℤ guard ∷ neg_ℤ first ∷ second ∷ []) ((neg_ℤ guard ∷ first ∷ neg_ℤ second ∷ []) ∷ []),
      words-cons (neg_ℤ guard ∷ first ∷ neg_ℤ second ∷ []) [],
    )

flat-words : (most : ℕ) (clauses : ℕ → List (List ℤ)) → ((x : ℕ) → clause_words (clauses x) ≤ most) → (xs : List ℕ) → clause_words (flat_map clauses xs) ≤ length xs * most
flat-words most clauses each [] = omega arith
flat-words most clauses each (x ∷ xs) =
    let whole = ap (λ (l : List (List ℤ)). clause_words l) (flat_map-cons clauses x xs) in
    omega (arith, whole, words-append (clauses x) (flat_map clauses xs), each x, flat-words most clauses each xs, suc-mul (length xs) most)

module _ (d : Design) (a : Automaton) (sound : IsSound d) (few : length a.obligations ≤ 2048) (n : ℕ) where
  abbrev m : ℕ
  m = length a.obligations

  abbrev C : ℕ
  C = constructors a

  abbrev covers : List Cover
  covers = covers_of d.tables

  abbrev before : ℕ
  before = before_places d a n

  -- the nodes of frames and of places
  placed-costs : costs covers (placed_nodes d a n) ≤ suc n * frame_most d + suc (suc n) * place_bits a + n
  placed-costs = omega (
    arith,
    sum_by-append (cost covers) (search_frame d a n).nodes (place_nodes a n),
    search_frame-costs d a sound n,
    places-costs covers a n,
  )

  -- and those of what is asked, with its clauses
  asked-most : asked_costs covers a few n before (asked_of d a n) ≤ costs covers (placed_nodes d a n) + suc n * place_cost covers a few n before (literals_of d a)
  unfolding asked_of
  asked-most = places-asked covers a few n before (literals_of d a) (placed_nodes d a n)

  -- how the run begins
  first-words : clause_words (first_clauses a n before) ≡ n + 3
  first-words =
      let begins = map (begins_at a n before) (range_with_len 0 n) in
      omega (
        arith,
        words-cons (owed_at a before 0 a.start ∷ []) (begins ∷ []),
        words-cons begins [],
        length-map-range_with_len (begins_at a n before) 0 n,
      )

  -- what closes its loop
  free-few : length (free_in d a) ≤ length d.inputs + length d.latches
  free-few =
      let outputs = map (λ (latch : Latch). latch.output) d.latches in
      omega (
        arith,
        length-filter_both (search_cone d a) (λ signal. not (search_cone d a signal)) (λ signal. refl) (free_of d),
        length-append d.inputs outputs,
        length-map d.latches (λ (latch : Latch). latch.output),
      )

  closing-words : (p : ℕ) → clause_words (closing_clauses d a n before p) ≤ 8 * (length d.inputs + length d.latches) + 104 * m
  closing-words p =
      let guard = begins_at a n before p in
      let frames = flat-words 8 (λ signal. same_under guard (literal_at 0 (literals_of d a p) signal) (literal_at 0 (literals_of d a n) signal))
      (λ signal. (let e = under-words guard (literal_at 0 (literals_of d a p) signal) (literal_at 0 (literals_of d a n) signal) in omega (arith, e))) (free_in d a) in
      let places = flat-words 8 (λ bit. same_under guard (bit_at a before (suc p) bit) (bit_at a before (suc n) bit))
      (λ bit. (let e = under-words guard (bit_at a before (suc p) bit) (bit_at a before (suc n) bit) in omega (arith, e))) (range_with_len 0 (place_bits a)) in
      omega (
        arith,
        words-append (same_frames d a n before p) (same_places a n before p),
        frames,
        places,
        free-few,
        length-range_with_len 0 (place_bits a),
        place-most a few,
      )

  abbrev closing_most : ℕ
  closing_most = 8 * (length d.inputs + length d.latches) + 104 * m

  closings-words : clause_words (flat_map (closing_clauses d a n before) (range_with_len 0 n)) ≤ n * closing_most
  closings-words =
      let product = ap (λ k. k * closing_most) (length-range_with_len 0 n) in
      omega (arith, flat-words closing_most (closing_clauses d a n before) closing-words (range_with_len 0 n), product)

  -- all nodes, and all words
  abbrev whole : ℕ
  whole = suc n * frame_most d + suc (suc n) * place_bits a + n + suc n * (539 * C + 3 * m)

  words-all : clause_words (search_clauses d a n) ≤ 2 + whole + (n + 3) + n * closing_most
  words-all =
      let asked = asked_of d a n in
      let own = asked_clauses d a n in
      let front = nodes.asked_clauses covers 0 1 asked.nodes (flat_map (λ (clause : List ℤ). clause) own) in
      let closings = flat_map (closing_clauses d a n before) (range_with_len 0 n) in
      omega (
        arith,
        words-cons (yes 0 ∷ []) (front ++ own),
        words-append front own,
        words-append (first_clauses a n before) (closings ++ asked.clauses),
        words-append closings asked.clauses,
        asked-words covers 1 asked.nodes (flat_map (λ (clause : List ℤ). clause) own),
        asked-most,
        placed-costs,
        first-words,
        closings-words,
      )

  variables-all : search_variables d a n ≤ 1 + whole
  variables-all = let asked = asked_of d a n in omega (arith, nodes-few covers asked.nodes, asked-most, placed-costs)

  -- so they are few beside the netlist and the automaton
  few-each : (frame_most d + 2 * place_bits a + 7) + (539 * C + 3 * m) + closing_most ≤ 1000 * search_bulk d a
  few-each = omega (arith, driven-few d sound, place-most a few, constructors-many a.obligations)

  linear : 2 + whole + (n + 3) + n * closing_most ≤ suc n * (1000 * search_bulk d a)
  linear =
      let lot : suc n * ((frame_most d + 2 * place_bits a + 7) + (539 * C + 3 * m) + closing_most) ≤ suc n * (1000 * search_bulk d a) = mul-le-mul_left (suc n) few-each in
      omega (arith, lot)

  square : (x : ℕ) → x ≤ suc n * (1000 * search_bulk d a) → x ≤ 1000 * suc n * suc n * search_bulk d a
  square x h =
      let more : suc n * (1000 * search_bulk d a) ≤ suc n * (suc n * (1000 * search_bulk d a)) = mul-le-mul_left (suc n) (omega arith) in
      omega (arith, h, more)

  pub words-most : clause_words (search_clauses d a n) ≤ 1000 * suc n * suc n * search_bulk d a
  words-most = square (clause_words (search_clauses d a n)) (omega (arith, words-all, linear))

  pub variables-most : search_variables d a n ≤ 1000 * suc n * suc n * search_bulk d a
  variables-most = square (search_variables d a n) (omega (arith, variables-all, linear))
