-- What is gathered of a search part by part is the whole of it.
use Rattle.std.proofs.Common.{◌≡◌, ◌∙◌, ℕ, suc, ◌+◌, ◌*◌, ◌<◌, ◌≤◌, inl, inr, ℤ, Bool, List, [], ◌∷◌, ◌++◌, map, fold, length, refl, sym, ap, subst, arith, append_assoc}
use Rattle.std.specs.Bool.{IsTrue}
use Rattle.std.specs.List.{All, filter, flat_map, range_with_len}
use Rattle.std.specs.Prelude.{◌↔◌}
use Rattle.std.proofs.lemmas.List.{append-nil}
use Rattle.alternating_theory.specs.Obligations.{Automaton}
use Rattle.clauses.specs.declared.flat.TheConstants.{MOST_WORDS}
use Rattle.clauses.specs.Literals.{clause_words, clauses_within}
use Rattle.gates_builder.specs.Adding.{AreOf, Making}
use Rattle.gates_covers.specs.Greedy.{covers_of}
use Rattle.gates_nodes.specs.Clauses.{formula}
use Rattle.gates_nodes.specs.declared.node.Node.{Node}
use Rattle.gates_nodes.specs.Nodes.{variables_of}
use Rattle.gates_theory.specs.Sizes.{IsTooLarge}
use Rattle.gates_theory.proofs.Sizes.{words-append}
use Rattle.netlist.specs.Design.{Design, free_of}
use Rattle.netlist.specs.Sound as netlists
use Rattle.netlist.specs.Valuations.{bit}
use Rattle.netlist.specs.declared.table.Table.{Table}
use Rattle.run_terms.specs.Formulas.{HasModel}
use Rattle.run_terms.specs.Sizes.{formula_bulk as search_bulk}
use Rattle.bounded_theory.specs.Found.{SomeFound}
use Rattle.bounded.specs.Adding.{frame_in, fronts_in}
use Rattle.bounded.specs.Framing.{IsPlaced}
use Rattle.bounded.specs.Obligations.{with_place}
use Rattle.bounded.specs.Searches.{asked_clauses, asked_of, before_places, closing_clauses, first_clauses, free_in, literals_of, placed_nodes, search_clauses, search_cone, search_variables}
use Rattle.bounded.specs.Serving.{HasPlaces}
use Rattle.bounded.specs.declared.places.Places.{Places}
use Rattle.bounded.proofs.Cones.{Premises, split}
use Rattle.bounded.proofs.Frames.{start-few}
use Rattle.bounded.proofs.Models.{models-runs}
use Rattle.bounded.proofs.Sizes.{variables-most, words-most}
use Rattle.bounded.proofs.Totals.{words-few}
use Rattle.bounded.proofs.Wholes.{behind, closings-same, filter-same, frame-is, places-behind, places-same}
use Rattle.bounded.proofs.Within.{asked-within}

pub free-below : (d : Design) → netlists.IsSound d → All (λ s. s < d.signals) (free_of d)
free-below d sound = (split (λ s. s < d.signals) (free_of d) (map (λ (table : Table). table.output) d.tables) sound.driven).0

pub free-are : (d : Design) (a : Automaton) → netlists.IsSound d → (cone : List Bool) → ((s : ℕ) → s < d.signals → bit cone s ≡ search_cone d a s)
    → filter (bit cone) (free_of d) ≡ free_in d a
free-are d a sound cone same = filter-same (bit cone) (search_cone d a) (free_of d) (λ k e low. same (Rattle.std.proofs.Common.get_or (free_of d) k e) (free-below d sound k e low))

module _ (d : Design) (a : Automaton) (n : ℕ) where
  abbrev pub fronts : List (List ℤ)
  fronts = first_clauses a n (before_places d a n) ++ flat_map (closing_clauses d a n (before_places d a n)) (range_with_len 0 n)

  pub whole-is : fronts ++ (asked_of d a n).clauses ≡ asked_clauses d a n
  whole-is = append_assoc (first_clauses a n (before_places d a n)) (flat_map (closing_clauses d a n (before_places d a n)) (range_with_len 0 n)) (asked_of d a n).clauses

  module _ (before : ℕ) (frames : List (List ℤ)) (begins : before ≡ before_places d a n) (are : frames ≡ map (literals_of d a) (range_with_len 0 (suc n))) where
    pub fronts-are : (signals : List ℕ) → signals ≡ free_in d a → fronts_in a frames signals n before ≡ fronts
    fronts-are signals free =
        ap (fronts_in a frames signals n) begins
        ∙ ap (λ l. first_clauses a n (before_places d a n) ++ l) (closings-same d a n (before_places d a n) frames are signals free)

    pub asked-are : (nodes : List Node) (clauses : List (List ℤ)) → nodes ≡ placed_nodes d a n → clauses ≡ fronts
        → fold (with_place a (frame_in frames) n before) (record { nodes = nodes; clauses = clauses }) (range_with_len 0 (suc n)) ≡ behind fronts (asked_of d a n)
    unfolding asked_of
    asked-are nodes clauses e f =
        let b = before_places d a n in
        let xs = range_with_len 0 (suc n) in
        let all = literals_of d a in
        ap (λ k. fold (with_place a (frame_in frames) n k) (record { nodes = nodes; clauses = clauses }) xs) begins
        ∙ ap (λ ns. fold (with_place a (frame_in frames) n b) (record { nodes = ns; clauses = clauses }) xs) e
        ∙ ap (λ cs. fold (with_place a (frame_in frames) n b) (record { nodes = placed_nodes d a n; clauses = cs }) xs) (f ∙ sym (append-nil fronts))
        ∙ places-same a n b (frame_in frames) all (λ p few. ap (λ l. frame_in l p) are ∙ frame-is all n p few) (record { nodes = placed_nodes d a n; clauses = fronts ++ [] })
        ∙ places-behind a n b all fronts (placed_nodes d a n)

  pub front-large : Premises d a → MOST_WORDS < clause_words fronts → IsTooLarge (search_variables d a n) (search_clauses d a n)
  front-large on large =
      let one = words-append fronts (asked_of d a n).clauses in
      let same = ap clause_words whole-is in
      let few = words-few d a on n in
      inr (omega (arith, one, same, few, large))

  pub asked-large : Premises d a → IsTooLarge (variables_of 0 (asked_of d a n).nodes) (fronts ++ (asked_of d a n).clauses) → IsTooLarge (search_variables d a n) (search_clauses d a n)
  asked-large on (inl many) = inl many
  asked-large on (inr many) =
      let same = ap clause_words whole-is in
      let few = words-few d a on n in
      inr (omega (arith, same, few, many))

pub placed-has : (d : Design) (places : Places) (making : Making) (frames : List (List ℤ)) (cone : List Bool) → Premises d places.automaton.now → IsPlaced d places making frames cone
    → HasPlaces places.automaton.now places.last places.before making
placed-has d places making frames cone on placed =
    let few = start-few d places.automaton.now on places.last in
    let many = ap (λ (m : Making). variables_of 0 m.nodes) placed.builder in
    record { given = ap (λ (m : Making). m.given) placed.builder; many = omega (arith, few, many, placed.before) }

-- the builder and the clauses from which the formula is made
module _ (d : Design) (a : Automaton) (on : Premises d a) (n : ℕ) (other : Automaton) (last : ℕ) (is : other ≡ a) (ends : last ≡ n) (builder : Making) (clauses : List (List ℤ))
    (makes : builder ≡ record { given = 0; covers = covers_of d.tables; nodes = (asked_of d other last).nodes }) (tells : clauses ≡ asked_clauses d other last) where
  made : builder ≡ record { given = 0; covers = covers_of d.tables; nodes = (asked_of d a n).nodes }
  made = makes ∙ ap (λ x. record { given = 0; covers = covers_of d.tables; nodes = (asked_of d x last).nodes }) is ∙ ap (λ k. record { given = 0; covers = covers_of d.tables; nodes = (asked_of d a k).nodes }) ends

  told : clauses ≡ asked_clauses d a n
  told = tells ∙ ap (λ x. asked_clauses d x last) is ∙ ap (asked_clauses d a) ends

  pub final-within : IsTrue (clauses_within (variables_of builder.given builder.nodes) clauses)
  final-within =
      subst (λ (m : Making). IsTrue (clauses_within (variables_of m.given m.nodes) clauses)) (sym made)
      (subst (λ cs. IsTrue (clauses_within (search_variables d a n) cs)) (sym told) (asked-within d a on n))

  pub final-clauses : (all : List (List ℤ)) → all ≡ formula builder.covers builder.given builder.nodes clauses → all ≡ search_clauses d a n
  final-clauses all f = f ∙ ap (λ (m : Making). formula m.covers m.given m.nodes clauses) made ∙ ap (formula (covers_of d.tables) 0 (asked_of d a n).nodes) told

  pub final-variables : (variables : ℕ) → variables ≡ variables_of builder.given builder.nodes → variables ≡ search_variables d a n
  final-variables variables e = e ∙ ap (λ (m : Making). variables_of m.given m.nodes) made

  pub final-models : (variables : ℕ) (all : List (List ℤ)) → variables ≡ variables_of builder.given builder.nodes → all ≡ formula builder.covers builder.given builder.nodes clauses
      → HasModel variables all ↔ SomeFound d a n
  final-models variables all e f =
      let count = final-variables variables e in
      let same = final-clauses all f in
      subst (λ k. HasModel k all ↔ SomeFound d a n) (sym count) (subst (λ cs. HasModel (search_variables d a n) cs ↔ SomeFound d a n) (sym same) (models-runs d a on n))

  -- there are few of both
  pub final-words : (all : List (List ℤ)) → all ≡ formula builder.covers builder.given builder.nodes clauses → length a.obligations ≤ 2048
      → clause_words all ≤ 1000 * suc n * suc n * search_bulk d a
  final-words all f small = let same = ap clause_words (final-clauses all f) in omega (arith, same, words-most d a on.sound small n)

  pub final-few : (variables : ℕ) → variables ≡ variables_of builder.given builder.nodes → length a.obligations ≤ 2048
      → variables ≤ 1000 * suc n * suc n * search_bulk d a
  final-few variables e small = omega (arith, final-variables variables e, variables-most d a on.sound small n)

-- what stands behind the frames
pub placed-from : (d : Design) (a : Automaton) (n : ℕ) (places : Places) (making : Making) (frames : List (List ℤ)) (cone : List Bool) → places.automaton.now ≡ a → places.last ≡ n
    → places.before ≡ before_places d a n → making ≡ record { given = 0; covers = covers_of d.tables; nodes = placed_nodes d a n }
    → frames ≡ map (literals_of d a) (range_with_len 0 (suc n)) → All (AreOf making) frames → All (λ literals. length literals ≡ d.signals) frames
    → length cone ≡ d.signals → ((s : ℕ) → s < d.signals → bit cone s ≡ search_cone d a s) → IsPlaced d places making frames cone
placed-from d a n places making frames cone is ends begins makes are of sizes size same = record {
  before = begins ∙ sym (ap (λ x. before_places d x places.last) is ∙ ap (before_places d a) ends);
  builder = makes ∙ sym (ap (λ x. record { given = 0; covers = covers_of d.tables; nodes = placed_nodes d x places.last }) is ∙ ap (λ k. record { given = 0; covers = covers_of d.tables; nodes = placed_nodes d a k }) ends);
  frames_are = are ∙ sym (ap (λ x. map (literals_of d x) (range_with_len 0 (suc places.last))) is ∙ ap (λ k. map (literals_of d a) (range_with_len 0 (suc k))) ends);
  are = of;
  sizes = sizes;
  cone_size = size;
  cone_is = λ s low. same s low ∙ sym (ap (λ x. search_cone d x s) is);
}
