-- The model of a run that is found: bits are told the values of its valuations, and what is owed along its word.
use Rattle.std.proofs.Common.{◌≡◌, inl, inr, ℕ, zero, suc, ◌+◌, ◌-◌, ◌*◌, ◌^◌, ◌<◌, ◌≤◌, ◌==◌, ℤ, pos, Bool, true, false, ◌&&◌, ◌||◌, cond, List, [], ◌∷◌, ◌++◌, map, length, get_or, refl, sym, ap, ◌∙◌, subst, arith, append_assoc}
use Rattle.std.specs.Bool.{IsTrue}
use Rattle.std.specs.List.{range_with_len}
use Rattle.std.proofs.lemmas.Bool.{and_from, and_parts, cases_lt, eq-eqb, eqb-true, ne_eqb}
use Rattle.std.proofs.lemmas.List.Folds.{list_any_at}
use Rattle.std.proofs.lemmas.List.FromFn.{get_or-map-range_with_len, length-map-range_with_len}
use Rattle.alternating_theory.specs.Courses as lasso
use Rattle.alternating_theory.specs.Obligations.{Automaton, obligation_at}
use Rattle.alternating_theory.specs.Positive.{met}
use Rattle.alternating_theory.proofs.Reached.{met-owed, owed-within}
use Rattle.bounded_theory.specs.Found.{IsFound}
use Rattle.bounded_theory.specs.Numbers.{AreSmall, IsSearched, is_kept, place_after, serves}
use Rattle.bounded_theory.specs.Digits.{number_width}
use Rattle.bounded_theory.proofs.Atoms.{atoms-of}
use Rattle.bounded_theory.proofs.Digits.{bits-list, width-holds}
use Rattle.bounded_theory.proofs.Ranks.{after-last, after-other}
use Rattle.bounded_theory.proofs.Readings.{loop-again, walk-size}
use Rattle.clauses.specs.Models.{Assignment, IsModel, is_true}
use Rattle.gates_covers.specs.Greedy.{covers_of}
use Rattle.gates_frames.specs.Frames.{Cone, literal_at}
use Rattle.gates_frames.specs.Paths.{IsPath, Shows, bits_along, valuation_of}
use Rattle.gates_letters.specs.Letters.{ShowsBefore}
use Rattle.gates_letters.proofs.Shown.{shown-combination}
use Rattle.gates_nodes.specs.declared.cover.Cover.{Cover}
use Rattle.gates_nodes.specs.declared.node.Node.{Node}
use Rattle.gates_nodes.specs.Clauses.{evaluated}
use Rattle.gates_nodes.specs.Nodes.{IsEvaluation, Source, any, node_value, node_within, nodes_hold, nodes_within, told}
use Rattle.gates_nodes.proofs.Evaluations.{agree-node, evaluated-before, evaluated-hold, evaluated-is, told-steady}
use Rattle.gates_nodes.proofs.Models.{evaluation-model}
use Rattle.gates_nodes.proofs.Values.{any-hold, nodes_hold-append}
use Rattle.gates_theory.specs.Circuits.{AreSame, same}
use Rattle.netlist.specs.Design.{Design, free_of}
use Rattle.netlist.specs.Runs.{valuation_at, walk_of, word}
use Rattle.netlist.specs.Valuations.{bit}
use Rattle.netlist.specs.declared.run.Run.{Run}
use Rattle.psl_tree.specs.Names.{AtomInRange}
use Rattle.psl_tree.specs.declared.letter.Letter.{Letter}
use Rattle.run_terms.specs.Letters.{before_at, letter_after}
use Rattle.run_terms.specs.Numbers.{bits_of_number, number_of}
use Rattle.run_terms.proofs.LetterRuns.{places-of_word, word-letter}
use Rattle.run_terms.proofs.NumberValues.{bits_of_number-length, number_of-bits}
use Rattle.bounded.specs.Obligations.{literals_before}
use Rattle.bounded.specs.Places.{begins_at, bits_before, digits_of, place_bits, place_nodes}
use Rattle.bounded.specs.Searches.{asked_clauses, asked_of, before_places, literals_of, search_clauses, search_cone, search_frame}
use Rattle.bounded.proofs.Asking.{asks_in, number_in, owed_in}
use Rattle.bounded.proofs.Blocks.{AreTold, are-told, bits-below, place-told, place_told}
use Rattle.bounded.proofs.Clauses.{Parts, of-parts}
use Rattle.bounded.proofs.Cones.{Premises, has-atoms}
use Rattle.bounded.proofs.Frames.{AllAsked, frame-sound, frames-told, so}
use Rattle.bounded.proofs.Reading.{exact-covers, some-literal}

-- nodes behind others name earlier literals too
within-rest : (before after : ℕ) (nodes more : List Node) → after ≡ before + length nodes → IsTrue (nodes_within before (nodes ++ more)) → IsTrue (nodes_within after more)
within-rest before after [] more e within = let same_place : before ≡ after = omega arith in subst (λ k. IsTrue (nodes_within k more)) same_place within
within-rest before after (node ∷ nodes) more e within =
    within-rest (suc before) after nodes more (omega arith) (and_parts (node_within before node) (nodes_within (suc before) (nodes ++ more)) within).1

-- nodes keep their values in an assignment that has the same values of their variables
hold-same : (covers : List Cover) (source : Source) (v w : Assignment) (before : ℕ) (nodes : List Node) → AreSame (before + length nodes) v w → IsTrue (nodes_within before nodes)
    → IsTrue (nodes_hold covers source v before nodes) → IsTrue (nodes_hold covers source w before nodes)
hold-same covers source v w before [] agree within hold = refl
hold-same covers source v w before (node ∷ nodes) agree within hold =
    let names = and_parts (node_within before node) (nodes_within (suc before) nodes) within in
    let parts = and_parts (same (v (suc before)) (node_value covers source v before node)) (nodes_hold covers source v (suc before) nodes) hold in
    let here : v (suc before) ≡ w (suc before) = agree (suc before) (omega arith) (omega arith) in
    let value = agree-node covers source v w before node (λ k some few. agree k some (omega arith)) names.0 here in
    and_from (same (w (suc before)) (node_value covers source w before node)) (nodes_hold covers source w (suc before) nodes)
    (ap (λ b. same b (node_value covers source w before node)) (sym here) ∙ ap (λ b. same (v (suc before)) b) (sym value) ∙ parts.0)
    (hold-same covers source v w (suc before) nodes (λ k some few. agree k some (omega arith)) names.1 parts.1)

module _ (d : Design) (a : Automaton) (on : Premises d a) (n : ℕ) (run : Run) (is : IsFound d a n run) (is_owed : ℕ → ℕ → Bool) (number : ℕ → ℕ → ℕ)
    (searched : IsSearched a n (suc (length run.stem)) (lasso.letter_at (word d run)) is_owed number) (small : AreSmall a number) where
  abbrev covers : List Cover
  covers = covers_of d.tables

  abbrev cone : Cone
  cone = search_cone d a

  abbrev m : ℕ
  m = length a.obligations

  abbrev w : ℕ
  w = number_width m

  abbrev B : ℕ
  B = before_places d a n

  abbrev first : ℕ
  first = length run.stem

  abbrev again : ℕ
  again = suc first

  abbrev after : ℕ → ℕ
  after = place_after n again

  first-below : first < n
  first-below = let some = is.is.loops in let size = is.size in omega (arith, size)

  abbrev path : List (List Bool)
  path = walk_of run

  path-size : length path ≡ suc n
  path-size = walk-size run is.is.loops ∙ ap suc is.size

  path-is : IsPath d true path
  path-is = record { some = omega (arith, path-size); begins = is.is.begins; steps = is.is.steps }

  -- what is told of places
  abbrev here : ℕ → ℕ
  here p = cond (p == suc n) again p

  abbrev bits : ℕ → ℕ → Bool
  bits label k =
      cond (label == suc n + suc (suc n)) (k == first)
      (get_or (place_told w (is_owed (here (label - suc n))) (number (here (label - suc n))) a.obligations 0) k false)

  -- the frames are evaluated along the path, and then what is behind them
  abbrev frame_nodes : List Node
  frame_nodes = (search_frame d a n).nodes

  abbrev nodes : List Node
  nodes = (asked_of d a n).nodes

  tail : List Node
  tail = place_nodes a n ++ (so d a on n).more

  nodes-are : nodes ≡ frame_nodes ++ tail
  unfolding tail
  nodes-are = (so d a on n).grown ∙ append_assoc frame_nodes (place_nodes a n) (so d a on n).more

  front : Assignment
  front = evaluated covers (told (bits_along path)) (λ variable. true) 1 frame_nodes

  u : Assignment
  u = evaluated covers (told bits) front B tail

  front-is : IsEvaluation covers 0 (told (bits_along path)) front frame_nodes
  unfolding front
  front-is = evaluated-is covers (told (bits_along path)) 0 (λ variable. true) frame_nodes (told-steady (bits_along path)) (frame-sound d a on n) refl

  u-front : AreSame B front u
  unfolding u
  u-front k some few = sym (evaluated-before covers (told bits) front B tail k few)

  frames-hold : IsEvaluation covers 0 (told (bits_along path)) u frame_nodes
  frames-hold = record {
    yes = sym (u-front 1 (omega arith) (omega arith)) ∙ front-is.yes;
    hold = hold-same covers (told (bits_along path)) front u 1 frame_nodes (λ k some few. u-front k some (omega arith)) (frame-sound d a on n) front-is.hold;
  }

  tail-within : IsTrue (nodes_within B tail)
  tail-within = within-rest 1 B frame_nodes tail (omega arith) (subst (λ l. IsTrue (nodes_within 1 l)) nodes-are (so d a on n).fine)

  tail-hold : IsTrue (nodes_hold covers (told bits) u B tail)
  unfolding u
  tail-hold = evaluated-hold covers (told bits) front B tail (told-steady bits) tail-within

  evaluation : IsEvaluation covers 0 any u nodes
  evaluation = subst (IsEvaluation covers 0 any u) (sym nodes-are) (record {
    yes = frames-hold.yes;
    hold = nodes_hold-append covers any u 1 B frame_nodes tail (omega arith)
        ∙ and_from (nodes_hold covers any u 1 frame_nodes) (nodes_hold covers any u B tail)
        (any-hold covers (told (bits_along path)) u 1 frame_nodes frames-hold.hold) (any-hold covers (told bits) u B tail tail-hold);
  })

  are : AreTold covers bits u a n B
  unfolding tail
  are = are-told covers bits u a n B
      (and_parts (nodes_hold covers (told bits) u B (place_nodes a n)) (nodes_hold covers (told bits) u (B + length (place_nodes a n)) (so d a on n).more)
      (sym (nodes_hold-append covers (told bits) u B (B + length (place_nodes a n)) (place_nodes a n) (so d a on n).more refl) ∙ tail-hold)).0

  -- the bits of places
  at-place : (p k : ℕ) → p < suc (suc n) → k < place_bits a → u (suc (B + p * place_bits a + k)) ≡ get_or (place_told w (is_owed (here p)) (number (here p)) a.obligations 0) k false
  at-place p k low below =
      let e : (suc n + p) - suc n ≡ p = omega arith in
      are.places p k low below ∙ rw (ne_eqb (suc n + p) (suc n + suc (suc n)) (λ same_label. omega arith), e) refl

  at-loop : (p : ℕ) → p < n → is_true u (begins_at a n B p) ≡ (p == first)
  at-loop p low = are.loops p low ∙ rw (eq-eqb (suc n + suc (suc n)) (suc n + suc (suc n)) refl) refl

  in-place : (p q j : ℕ) → p < suc (suc n) → q < m → j < suc (digits_of w (obligation_at a.obligations q))
      → u (suc (B + p * place_bits a + (bits_before a q + j))) ≡ get_or (is_owed (here p) q ∷ bits_of_number (digits_of w (obligation_at a.obligations q)) (number (here p) q)) j false
  in-place p q j low below few =
      let e : 0 + q ≡ q = omega arith in
      let fit = bits-below a q below in
      at-place p (bits_before a q + j) low (omega (arith, fit)) ∙ place-told w (is_owed (here p)) (number (here p)) a.obligations 0 q j below few
      ∙ ap (λ k. get_or (is_owed (here p) k ∷ bits_of_number (digits_of w (obligation_at a.obligations q)) (number (here p) k)) j false) e

  owed-told : (p q : ℕ) → p < suc (suc n) → q < m → owed_in a B u p q ≡ is_owed (here p) q
  owed-told p q low below = ap (λ k. u (suc k)) (omega arith) ∙ in-place p q 0 low below (omega arith)

  number-told : (p q : ℕ) → p < suc (suc n) → q < m → (obligation_at a.obligations q).accepting ≡ false → number_in a B u p q ≡ number (here p) q
  number-told p q low below other =
      let c = digits_of w (obligation_at a.obligations q) in
      let x = number (here p) q in
      let wide : c ≡ w = ap (λ b. cond b 0 w) other in
      ap number_of (bits-list u c (suc (B + p * place_bits a + bits_before a q)) (bits_of_number c x) (bits_of_number-length c x)
      (λ k few. ap (λ j. u (suc j)) (omega arith) ∙ in-place p q (suc k) low below (omega arith)))
      ∙ number_of-bits c x (subst (λ k. x < 2 ^ k) (sym wide) (width-holds m x (small (here p) q)))

  here-same : (p : ℕ) → p ≤ n → here p ≡ p
  here-same p few = ap (λ b. cond b again p) (ne_eqb p (suc n) (λ e. omega arith))

  here-next : (p : ℕ) → p ≤ n → here (suc p) ≡ after p
  here-next p few = elim (cases_lt p n) [
    | inl low ↦ here-same (suc p) low ∙ sym (after-other n again p low)
    | inr high ↦
        let e : p ≡ n = omega arith in
        ap (λ b. cond b again (suc p)) (eq-eqb (suc p) (suc n) (ap suc e)) ∙ sym (ap after e ∙ after-last n again)
  ]

  -- what is asked
  abbrev asks : ℕ → ℕ → ℕ → Bool
  asks p q r = is_owed (after p) r && serves a (p == n) q (number p q) r (number (after p) r)

  neither : (x y : Bool) → (x || y) ≡ false → (x ≡ false) × (y ≡ false)
  neither true y e = absurd (cc)
  neither false y e = (refl, e)

  same-serves : (p q r : ℕ) → p ≤ n → q < m → r < m
      → serves a (p == n) q (number_in a B u p q) r (number_in a B u (suc p) r) ≡ serves a (p == n) q (number p q) r (number (after p) r)
  same-serves p q r high low below =
      by ((obligation_at a.obligations q).accepting || (obligation_at a.obligations r).accepting) refl
    where
      by : (b : Bool) → ((obligation_at a.obligations q).accepting || (obligation_at a.obligations r).accepting) ≡ b
          → (b || is_kept (p == n) (number_in a B u p q) (number_in a B u (suc p) r)) ≡ (b || is_kept (p == n) (number p q) (number (after p) r))
      by true e = refl
      by false e =
          let parts = neither (obligation_at a.obligations q).accepting (obligation_at a.obligations r).accepting e in
          rw (number-told p q (omega arith) low parts.0 ∙ ap (λ k. number k q) (here-same p high), number-told (suc p) r (omega arith) below parts.1 ∙ ap (λ k. number k r) (here-next p high)) refl

  same-asks : (p q r : ℕ) → p ≤ n → q < m → r < m → asks_in a n B u p q r ≡ asks p q r
  same-asks p q r high low below =
      rw (owed-told (suc p) r (omega arith) below ∙ ap (λ k. is_owed k r) (here-next p high), same-serves p q r high low below) refl

  shows : (p : ℕ) → p ≤ n → Shows 0 cone u (literals_of d a p) (valuation_of path p)
  shows = frames-told d a on u n path path-is path-size frames-hold

  shows-before : (p : ℕ) → p ≤ n → ShowsBefore 0 cone u (literals_before (literals_of d a) p) (before_at run p)
  shows-before zero few = tt
  shows-before (suc p) few = shows p (omega arith)

  all-asked : AllAsked d a on n u
  all-asked p q high low asked =
      let delta = (obligation_at a.obligations q).delta in
      let owed : IsTrue (is_owed p q) = sym (ap (λ k. is_owed k q) (here-same p high)) ∙ sym (owed-told p q (omega arith) low) ∙ asked in
      let letter = word-letter d run p (omega (arith, places-of_word d run, is.size)) in
      let met_there : IsTrue (met delta (letter_after d.names (before_at run p) (valuation_at run p)) (asks p q)) =
      subst (λ (x : Letter). IsTrue (met delta x (asks p q))) letter (searched.meets p q high low owed) in
      shown-combination 0 d.names cone u (literals_before (literals_of d a) p) (literals_of d a p) (before_at run p) (valuation_at run p) (asks_in a n B u p q) delta
      evaluation.yes (atoms-of (AtomInRange d.names) a.obligations on.tests q low) (has-atoms d a on q low) (shows-before p high) (shows p high)
      ∙ met-owed delta (letter_after d.names (before_at run p) (valuation_at run p)) (asks_in a n B u p q) (asks p q)
      (λ r o. same-asks p q r high low (owed-within 0 m delta (on.good.owed q low) r o).1)
      ∙ met_there

  -- the clauses
  loop-is : (p : ℕ) → p < n → IsTrue (is_true u (begins_at a n B p)) → p ≡ first
  loop-is p low begins = eqb-true p first (sym (at-loop p low) ∙ begins)

  abbrev literal : ℕ → ℕ → ℤ
  literal p s = literal_at 0 (literals_of d a p) s

  same-frames : (p : ℕ) → p ≡ first → p ≤ n → (s : ℕ) → IsTrue (cone s) → is_true u (literal p s) ≡ is_true u (literal n s)
  same-frames p e few s inside =
      shows p few s inside ∙ ap (λ k. bit (valuation_of path k) s) e
      ∙ ap (λ x. bit x s) (loop-again run is.is.loops ∙ ap (valuation_at run) is.size)
      ∙ sym (shows n (omega arith) s inside)

  same-places : (p k : ℕ) → p ≡ first → k < place_bits a → u (suc (B + suc p * place_bits a + k)) ≡ u (suc (B + suc n * place_bits a + k))
  same-places p k e below =
      let low = first-below in
      at-place (suc p) k (omega (arith, low)) below
      ∙ ap (λ j. get_or (place_told w (is_owed j) (number j) a.obligations 0) k false)
      (here-same (suc p) (omega (arith, low)) ∙ ap suc e ∙ sym (here-next n (omega arith) ∙ after-last n again))
      ∙ sym (at-place (suc n) k (omega arith) below)

  all-parts : Parts d a n (some-literal d a on n) u
  all-parts =
      let list = map (begins_at a n B) (range_with_len 0 n) in
      let low = first-below in
      record {
        start = owed-told 0 a.start (omega arith) on.good.start ∙ ap (λ k. is_owed k a.start) (here-same 0 (omega arith)) ∙ searched.begins;
        some = list_any_at (is_true u) list first (pos 0) (omega (arith, low, length-map-range_with_len (begins_at a n B) 0 n))
            (ap (is_true u) (get_or-map-range_with_len (begins_at a n B) 0 n first first (pos 0) low (omega arith)) ∙ at-loop first low ∙ eq-eqb first first refl);
        frames = λ p small_p begins i e below inside. same-frames p (loop-is p small_p begins) (omega arith) (get_or (free_of d) i e) inside;
        places = λ p k small_p below begins. same-places p k (loop-is p small_p begins) below;
        asked = (so d a on n).back any u evaluation all-asked;
      }

  pub told-model : (v : Assignment) × IsModel v (search_clauses d a n)
  told-model =
      (u, evaluation-model covers 0 (exact-covers d) any u nodes (asked_clauses d a n) (so d a on n).fine evaluation (of-parts d a n (some-literal d a on n) u all-parts))
