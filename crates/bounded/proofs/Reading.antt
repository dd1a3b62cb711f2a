-- The run of a model.
use Rattle.std.proofs.Common.{◌≡◌, inl, inr, ℕ, zero, suc, ◌+◌, ◌-◌, ◌*◌, ◌<◌, ◌≤◌, ◌==◌, ℤ, pos, negsuc, Bool, true, false, not, ◌&&◌, ◌||◌, List, [], ◌∷◌, ◌++◌, map, length, get_or, Option, None, Some, refl, sym, ap, ◌∙◌, subst, arith}
use Rattle.std.specs.Bool.{IsTrue}
use Rattle.std.specs.List.{All, flat_map, list_all, range_with_len}
use Rattle.std.proofs.lemmas.Bool.{and_parts, cases_Bool, cases_lt}
use Rattle.std.proofs.lemmas.List.Elements.{All-cons, All-head, All-nil, All-tail}
use Rattle.std.proofs.lemmas.List.Folds.{Any-from_list_any, list_all-append}
use Rattle.std.proofs.lemmas.List.FromFn.{get_or-map-range_with_len, length-map-range_with_len}
use Rattle.alternating_theory.specs.Courses as lasso
use Rattle.alternating_theory.specs.Obligations.{Automaton, obligation_at}
use Rattle.alternating_theory.specs.Positive.{met}
use Rattle.alternating_theory.proofs.Reached.{met-owed, owed-within}
use Rattle.bounded_theory.specs.Found.{IsFound}
use Rattle.bounded_theory.specs.Numbers.{IsSearched, place_after, serves}
use Rattle.bounded_theory.specs.Digits.{number_width}
use Rattle.bounded_theory.proofs.Atoms.{atoms-of}
use Rattle.bounded_theory.proofs.Passing.{first-passes}
use Rattle.bounded_theory.proofs.Ranks.{after-last, after-other, numbers-accepted}
use Rattle.bounded_theory.proofs.Readings.{run-is, run_with, sizes, valuation-at}
use Rattle.clauses.specs.Literals.{variable_of}
use Rattle.clauses.specs.Models.{Assignment, IsModel, is_true, meets}
use Rattle.gates_covers.specs.Greedy.{covers_of}
use Rattle.gates_covers.proofs.Listed.{covers-are}
use Rattle.gates_frames.specs.Frames.{Cone, literal_at}
use Rattle.gates_frames.specs.Paths.{IsPath, Shows, valuation_of}
use Rattle.gates_frames.proofs.Shown.{at_within}
use Rattle.gates_letters.specs.Letters.{ShowsBefore}
use Rattle.gates_letters.proofs.Shown.{shown-combination}
use Rattle.gates_nodes.specs.declared.cover.Cover.{Cover}
use Rattle.gates_nodes.specs.declared.node.Node.{Node}
use Rattle.gates_nodes.specs.Clauses.{asked_clauses as clauses_of, asks, evaluated}
use Rattle.gates_nodes.specs.Nodes.{IsEvaluation, any, cover_at, variables_of, IsExact}
use Rattle.gates_nodes.proofs.Folds.{no-false}
use Rattle.gates_nodes.proofs.Literals.{or_false, positive}
use Rattle.gates_nodes.proofs.Models.{model-evaluation, model-kept}
use Rattle.gates_nodes.proofs.Values.{before-evaluation}
use Rattle.netlist.specs.Design.{Design, free_of}
use Rattle.netlist.specs.Runs.{bits_of, valuation_at as valuation_in, word}
use Rattle.netlist.specs.Valuations.{IsInitial, IsStep, IsValuation, MayBegin, bit}
use Rattle.netlist.specs.declared.latch.Latch.{Latch}
use Rattle.netlist.specs.declared.run.Run.{Run}
use Rattle.psl_tree.specs.Letters.{letter_at}
use Rattle.psl_tree.specs.Names.{AtomInRange}
use Rattle.psl_tree.specs.declared.letter.Letter.{Letter}
use Rattle.run_terms.specs.Letters.{before_at, letter_after}
use Rattle.run_terms.specs.Numbers.{number_of}
use Rattle.run_terms.proofs.LetterRuns.{places-of_word, word-letter}
use Rattle.run_terms.proofs.Wholes.{bits-same}
use Rattle.bounded.specs.Found.{filled, loop_place, run_of}
use Rattle.bounded.specs.Obligations.{literals_before}
use Rattle.bounded.specs.Places.{begins_at, bits_before, digits_of, place_bits, place_nodes}
use Rattle.bounded.specs.Searches.{asked_clauses, asked_of, before_places, literals_of, placed_nodes, search_clauses, search_cone, search_frame}
use Rattle.bounded.proofs.Asking.{asks_in, number_in, owed_in}
use Rattle.bounded.proofs.Blocks.{bits-below}
use Rattle.bounded.proofs.Clauses.{Parts, begins-named, frame-named, parts-of}
use Rattle.bounded.proofs.Cones.{Premises, cone-least, has-atoms, has-latches, in-order}
use Rattle.bounded.proofs.Filling.{filled-agree, filled-is}
use Rattle.bounded.proofs.Frames.{frames-show, literal-outside, so, start-within}

unmap : {X Y : Type 0} (P : Y → Type 0) (f : X → Y) (xs : List X) → All P (map f xs) → All (λ x. P (f x)) xs
unmap P f [] all = All-nil (λ x. P (f x))
unmap P f (x ∷ xs) all = All-cons (λ y. P (f y)) x xs (All-head P (f x) (map f xs) all) (unmap P f xs (All-tail P (f x) (map f xs) all))

all-map : (f g : ℕ → Bool) (xs : List ℕ) → All (λ x. f x ≡ g x) xs → map f xs ≡ map g xs
all-map f g [] all = refl
all-map f g (x ∷ xs) all = rw (All-head (λ y. f y ≡ g y) x xs all, all-map f g xs (All-tail (λ y. f y ≡ g y) x xs all)) refl

same-literal : (w v : Assignment) (l : ℤ) → w (variable_of l) ≡ v (variable_of l) → is_true w l ≡ is_true v l
same-literal w v (pos k) e = e
same-literal w v (negsuc k) e = ap not e

-- the latches are in the cone
pub latches-in : (d : Design) (a : Automaton) → Premises d a → All (λ latch. IsTrue (search_cone d a latch.output)) d.latches
latches-in d a on = unmap (λ signal. IsTrue (search_cone d a signal)) (λ (latch : Latch). latch.output) d.latches (has-latches d a on)

pub exact-covers : (d : Design) → (number : ℕ) → IsExact (cover_at (covers_of d.tables) number)
exact-covers d = (covers-are d.tables).each

pub some-literal : (d : Design) (a : Automaton) (on : Premises d a) (n p s : ℕ) → p ≤ n → 0 < variable_of (literal_at 0 (literals_of d a p) s)
some-literal d a on n p s few =
    let V = variables_of 0 (placed_nodes d a n) in
    positive V (literal_at 0 (literals_of d a p) s) (at_within V 0 (literals_of d a p) s (omega arith) (start-within d a on n p few))

pub path-valid : (d : Design) (path : List (List Bool)) → IsPath d true path → (p : ℕ) → p < length path → IsValuation d (valuation_of path p)
path-valid d path is zero low = is.begins.valuation
path-valid d path is (suc p) low = (is.steps p low).after

module _ (d : Design) (a : Automaton) (on : Premises d a) (n : ℕ) (v : Assignment) (model : IsModel v (search_clauses d a n)) where
  abbrev covers : List Cover
  covers = covers_of d.tables

  abbrev cone : Cone
  cone = search_cone d a

  abbrev nodes : List Node
  nodes = (asked_of d a n).nodes

  abbrev B : ℕ
  B = before_places d a n

  abbrev m : ℕ
  m = length a.obligations

  abbrev literal : ℕ → ℕ → ℤ
  literal p s = literal_at 0 (literals_of d a p) s

  w : Assignment
  w = evaluated covers any v 1 nodes

  evaluation : IsEvaluation covers 0 any w nodes × IsModel w (asked_clauses d a n)
  unfolding w
  evaluation = model-evaluation covers 0 (exact-covers d) v nodes (asked_clauses d a n) (so d a on n).fine model

  truth : v 1 ≡ true
  truth = sym (or_false (v 1)) ∙ (and_parts (v 1 || false) (list_all (meets v) _) model).0

  own : IsModel v (asked_clauses d a n)
  own =
      let gates = clauses_of covers 0 1 nodes _ in
      let rest = (and_parts (v 1 || false) (list_all (meets v) (gates ++ asked_clauses d a n)) model).1 in
      (and_parts (list_all (meets v) gates) (list_all (meets v) (asked_clauses d a n)) (sym (list_all-append (meets v) gates (asked_clauses d a n)) ∙ rest)).1

  parts : Parts d a n (some-literal d a on n) w
  parts = parts-of d a n (some-literal d a on n) w evaluation.1

  kept : (l : ℤ) → IsTrue (asks (flat_map (λ (clause : List ℤ). clause) (asked_clauses d a n)) (variable_of l)) → is_true w l ≡ is_true v l
  unfolding w
  kept l named = same-literal w v l (model-kept covers 0 (exact-covers d) v nodes (asked_clauses d a n) (so d a on n).fine model (variable_of l) named)

  -- the loop's place
  abbrev first : ℕ
  first = loop_place d a n v

  begun : (first < n) × IsTrue (is_true v (begins_at a n B first))
  begun =
      let list = map (begins_at a n B) (range_with_len 0 n) in
      let found = Any-from_list_any (is_true v) list (parts-of d a n (some-literal d a on n) v own).some in
      let low : found.0 < n = omega (arith, found.2, length-map-range_with_len (begins_at a n B) 0 n) in
      let here : begins_at a n B found.0 ≡ found.1 = sym (get_or-map-range_with_len (begins_at a n B) 0 n found.0 found.0 found.1 low (omega arith)) ∙ found.3 in
      first-passes n (λ place. is_true v (begins_at a n B place)) found.0 low (ap (is_true v) here ∙ found.4)

  begins-there : IsTrue (is_true w (begins_at a n B first))
  begins-there = kept (begins_at a n B first) (begins-named d a n (some-literal d a on n) first begun.0) ∙ begun.1

  -- the frames show a path
  in_frames : IsEvaluation covers 0 any w (search_frame d a n).nodes
  in_frames =
      let s = so d a on n in
      before-evaluation covers any w 0 (search_frame d a n).nodes (place_nodes a n)
      (before-evaluation covers any w 0 (placed_nodes d a n) s.more (subst (IsEvaluation covers 0 any w) s.grown evaluation.0))

  record Shown : Type 0 where
    path : List (List Bool)
    is : IsPath d true path
    size : length path ≡ suc n
    shows : (p : ℕ) → p ≤ n → Shows 0 cone w (literals_of d a p) (valuation_of path p)

  shown : Shown
  shown = let found = frames-show d a on any w n in_frames in record { path = found.0; is = found.1; size = found.2; shows = found.3 }

  -- the valuations that are read
  abbrev valuation : ℕ → List Bool
  valuation p = filled d (map (λ signal. is_true v (literal p signal)) (free_of d))

  outside-false : (u : Assignment) → u 1 ≡ true → (p s : ℕ) → cone s ≡ false → is_true u (literal p s) ≡ false
  outside-false u e p s outside = ap (is_true u) (literal-outside d a p s outside) ∙ no-false u 0 e

  named-at : (p : ℕ) → p ≤ n → All (λ s. IsTrue (cone s) → is_true w (literal p s) ≡ is_true v (literal p s)) (free_of d)
  named-at p few i e below inside = elim (cases_lt p n) [
    | inl low ↦ kept (literal p (get_or (free_of d) i e)) (frame-named d a n (some-literal d a on n) p low i e below inside).0
    | inr high ↦
        let same : n ≡ p = omega arith in
        subst (λ k. is_true w (literal k (get_or (free_of d) i e)) ≡ is_true v (literal k (get_or (free_of d) i e))) same
        (kept (literal n (get_or (free_of d) i e)) (frame-named d a n (some-literal d a on n) first begun.0 i e below inside).1)
  ]

  free-same : (p : ℕ) → p ≤ n → map (λ signal. is_true v (literal p signal)) (free_of d) ≡ map (λ signal. is_true w (literal p signal)) (free_of d)
  free-same p few = all-map (λ signal. is_true v (literal p signal)) (λ signal. is_true w (literal p signal)) (free_of d) (λ i e below.
      (let s = get_or (free_of d) i e in
      elim (cases_Bool (cone s)) as (λ _. is_true v (literal p s) ≡ is_true w (literal p s)) [
        | inl inside ↦ sym (named-at p few i e below inside)
        | inr outside ↦ outside-false v truth p s outside ∙ sym (outside-false w evaluation.0.yes p s outside)
      ]))

  agree : (p : ℕ) → p ≤ n → (s : ℕ) → IsTrue (cone s) → bit (valuation p) s ≡ bit (valuation_of shown.path p) s
  agree p few s inside =
      ap (λ free. bit (filled d free) s) (free-same p few)
      ∙ filled-agree d cone (cone-least d a on).closed on.sound (in-order d a on) (λ signal. is_true w (literal p signal)) (valuation_of shown.path p)
      (path-valid d shown.path shown.is p (omega (arith, shown.size))) (λ k k_in. shown.shows p few k k_in) s inside

  shows : (p : ℕ) → p ≤ n → Shows 0 cone w (literals_of d a p) (valuation p)
  shows p few s inside = shown.shows p few s inside ∙ sym (agree p few s inside)

  closed : valuation first ≡ valuation n
  closed =
      let low = begun.0 in
      let f = λ (p signal : ℕ). is_true w (literal p signal) in
      ap (filled d) (free-same first (omega (arith, low))
      ∙ all-map (f first) (f n) (free_of d) (λ i e below.
      (let s = get_or (free_of d) i e in
      elim (cases_Bool (cone s)) as (λ _. f first s ≡ f n s) [
        | inl inside ↦ parts.frames first low begins-there i e below inside
        | inr outside ↦ outside-false w evaluation.0.yes first s outside ∙ sym (outside-false w evaluation.0.yes n s outside)
      ]))
      ∙ sym (free-same n (omega arith)))

  valid : (p : ℕ) → IsValuation d (valuation p)
  valid p = filled-is d cone (cone-least d a on).closed on.sound (in-order d a on) (map (λ signal. is_true v (literal p signal)) (free_of d))

  initial : IsInitial d (valuation 0)
  initial = record {
    valuation = valid 0;
    latches = λ i e below.
        subst (MayBegin (get_or d.latches i e).init) (sym (agree 0 (omega arith) (get_or d.latches i e).output (latches-in d a on i e below)))
        (shown.is.begins.latches i e below);
  }

  step : (p : ℕ) → p < n → IsStep d (valuation p) (valuation (suc p))
  step p low = record {
    before = valid p;
    after = valid (suc p);
    latches = λ i e below.
        let latch = get_or d.latches i e in
        let inside = latches-in d a on i e below in
        agree (suc p) low latch.output inside ∙ (shown.is.steps p (omega (arith, shown.size))).latches i e below
        ∙ sym (agree p (omega arith) latch.input ((cone-least d a on).closed.latches i e below inside));
  }

  abbrev run : Run
  run = run_with valuation first n

  at : (i : ℕ) → i ≤ n → valuation_in run i ≡ valuation i
  at i high = valuation-at valuation first n begun.0 closed i high

  abbrev earlier : ℕ → Option (List Bool)
  earlier zero = None
  earlier (suc p) = Some (valuation p)

  before-is : (i : ℕ) → i ≤ n → before_at run i ≡ earlier i
  before-is zero high = refl
  before-is (suc i) high = ap (λ x. Some x) (at i (omega arith))

  places-are : lasso.places (word d run) ≡ suc n
  places-are =
      let size = sizes valuation first n begun.0 in
      let low = begun.0 in
      places-of_word d run ∙ omega (arith, size.0, size.1, low)

  letter-is : (i : ℕ) → i ≤ n → lasso.letter_at (word d run) i ≡ letter_after d.names (earlier i) (valuation i)
  letter-is i high = word-letter d run i (omega (arith, places-are)) ∙ rw (before-is i high, at i high) refl

  shows-before : (i : ℕ) → i ≤ n → ShowsBefore 0 cone w (literals_before (literals_of d a) i) (earlier i)
  shows-before zero high = tt
  shows-before (suc i) high = shows i (omega arith)

  -- what is owed next
  abbrev after : ℕ → ℕ
  after = place_after n (suc first)

  same-bit : (i k : ℕ) → i ≤ n → k < place_bits a → w (suc (B + suc i * place_bits a + k)) ≡ w (suc (B + after i * place_bits a + k))
  same-bit i k high below = elim (cases_lt i n) [
    | inl low ↦ ap (λ p. w (suc (B + p * place_bits a + k))) (sym (after-other n (suc first) i low))
    | inr end ↦
        let e : i ≡ n = omega arith in
        ap (λ p. w (suc (B + suc p * place_bits a + k))) e ∙ sym (parts.places first k begun.0 below begins-there)
        ∙ ap (λ p. w (suc (B + p * place_bits a + k))) (sym (ap after e ∙ after-last n (suc first)))
  ]

  next-owed : (i r : ℕ) → i ≤ n → r < m → owed_in a B w (suc i) r ≡ owed_in a B w (after i) r
  next-owed i r high low = same-bit i (bits_before a r) high (omega (arith, bits-below a r low))

  next-number : (i r : ℕ) → i ≤ n → r < m → number_in a B w (suc i) r ≡ number_in a B w (after i) r
  next-number i r high low =
      let c = digits_of (number_width m) (obligation_at a.obligations r) in
      let fit = bits-below a r low in
      ap number_of (bits-same w w c (suc (B + suc i * place_bits a + bits_before a r)) (suc (B + after i * place_bits a + bits_before a r))
      (λ k below. ap (λ x. w (suc x)) (omega arith) ∙ same-bit i (bits_before a r + suc k) high (omega (arith, fit)) ∙ ap (λ x. w (suc x)) (omega arith)))

  same-asks : (i q r : ℕ) → i ≤ n → r < m → asks_in a n B w i q r
      ≡ (owed_in a B w (after i) r && serves a (i == n) q (number_in a B w i q) r (number_in a B w (after i) r))
  same-asks i q r high low = rw (next-owed i r high low, next-number i r high low) refl

  meets-at : (i q : ℕ) → i ≤ n → q < m → IsTrue (owed_in a B w i q)
      → IsTrue (met (obligation_at a.obligations q).delta (lasso.letter_at (word d run) i)
      (λ r. owed_in a B w (after i) r && serves a (i == n) q (number_in a B w i q) r (number_in a B w (after i) r)))
  meets-at i q high low asked =
      let delta = (obligation_at a.obligations q).delta in
      let here = (so d a on n).to any w evaluation.0 parts.asked i q high low asked in
      let next = λ (r : ℕ). owed_in a B w (after i) r && serves a (i == n) q (number_in a B w i q) r (number_in a B w (after i) r) in
      let there : IsTrue (met delta (letter_after d.names (earlier i) (valuation i)) (asks_in a n B w i q)) =
      sym (shown-combination 0 d.names cone w (literals_before (literals_of d a) i) (literals_of d a i) (earlier i) (valuation i) (asks_in a n B w i q) delta
      evaluation.0.yes (atoms-of (AtomInRange d.names) a.obligations on.tests q low) (has-atoms d a on q low) (shows-before i high) (shows i high)) ∙ here in
      subst (λ (x : Letter). IsTrue (met delta x next)) (sym (letter-is i high))
      (sym (met-owed delta (letter_after d.names (earlier i) (valuation i)) (asks_in a n B w i q) next
      (λ r o. same-asks i q r high (owed-within 0 m delta (on.good.owed q low) r o).1)) ∙ there)

  searched : IsSearched a n (suc first) (lasso.letter_at (word d run)) (owed_in a B w) (number_in a B w)
  searched = record { begins = parts.start; meets = λ place obligation high low asked. meets-at place obligation high low asked }

  pub model-run : IsFound d a n (run_of d a n v)
  model-run =
      let size = sizes valuation first n begun.0 in
      let low = begun.0 in
      let entered : length (word d run).stem ≡ suc first = length-map-range_with_len (letter_at (bits_of run) d.names) 0 (suc (length run.stem)) ∙ ap suc size.0 in
      let looped : length (word d run).looped ≡ n - first = length-map-range_with_len (letter_at (bits_of run) d.names) (suc (length run.stem)) (length run.loop_part) ∙ size.1 in
      record {
        is = run-is valuation first n low d closed initial step;
        size = omega (arith, size.0, size.1, low);
        accepted = numbers-accepted a (word d run) n (owed_in a B w) (number_in a B w) on.good (omega (arith, looped, low)) places-are
            (subst (λ (k : ℕ). IsSearched a n k (lasso.letter_at (word d run)) (owed_in a B w) (number_in a B w)) (sym entered) searched);
      }
