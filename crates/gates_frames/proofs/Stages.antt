-- Literals that are written one behind another, beside the same writes to a valuation.
use Rattle.std.proofs.Common.{◌≡◌, ℕ, zero, suc, ◌+◌, ◌<◌, ◌≤◌, ℤ, Bool, true, false, cond, List, [], ◌∷◌, ◌++◌, map, fold, length, set, get_or, refl, sym, ap, ◌∙◌, subst, arith, append_assoc, length-set, get_or-set_other}
use Rattle.std.specs.Bool.{IsTrue}
use Rattle.std.specs.List.{All}
use Rattle.std.proofs.lemmas.Bool.{and_from, and_parts}
use Rattle.std.proofs.lemmas.List.{append-nil}
use Rattle.clauses.specs.Literals.{clause_within, is_within}
use Rattle.clauses.specs.Models.{Assignment, is_true}
use Rattle.gates_theory.proofs.Within.{wider}
use Rattle.netlist.specs.Filling.{with_values}
use Rattle.netlist.specs.Valuations.{bit}
use Rattle.gates_nodes.specs.declared.cover.Cover.{Cover}
use Rattle.gates_nodes.specs.declared.node.Node.{Node}
use Rattle.gates_nodes.specs.Folding.{Built}
use Rattle.gates_nodes.specs.Makes.{AreSound, Makes}
use Rattle.gates_nodes.specs.Nodes.{IsEvaluation, Source, no, variables_of}
use Rattle.gates_nodes.proofs.Literals.{first_within, more_within, rest_within}
use Rattle.gates_nodes.proofs.Values.{before-evaluation, variables-more}
use Rattle.gates_frames.specs.Frames.{Cone, Frame, literal_at, written}
use Rattle.gates_frames.specs.Paths.{Shows}

set-within : (n : ℕ) (literals : List ℤ) (place : ℕ) (l : ℤ) → IsTrue (clause_within n literals) → IsTrue (is_within n l) → IsTrue (clause_within n (set literals place l))
set-within n [] place l within here = refl
set-within n (x ∷ literals) zero l within here = more_within n l literals here (rest_within n x literals within)
set-within n (x ∷ literals) (suc place) l within here =
    more_within n x (set literals place l) (first_within n x literals within) (set-within n literals place l (rest_within n x literals within) here)

-- the same write to literals and to values
same-set : (f : ℤ → Bool) (d : ℤ) (literals : List ℤ) (values : List Bool) (place k : ℕ) (l : ℤ) (value : Bool) → length literals ≡ length values → f l ≡ value →
    f (get_or literals k d) ≡ get_or values k false → f (get_or (set literals place l) k d) ≡ get_or (set values place value) k false
same-set f d [] [] place k l value size here old = old
same-set f d [] (y ∷ values) place k l value size here old = absurd (omega arith)
same-set f d (x ∷ literals) [] place k l value size here old = absurd (omega arith)
same-set f d (x ∷ literals) (y ∷ values) zero zero l value size here old = here
same-set f d (x ∷ literals) (y ∷ values) zero (suc k) l value size here old = old
same-set f d (x ∷ literals) (y ∷ values) (suc place) zero l value size here old = old
same-set f d (x ∷ literals) (y ∷ values) (suc place) (suc k) l value size here old = same-set f d literals values place k l value (omega arith) here old

-- a fact of each of some things
abbrev pub AllOf : {X : Type 0} → (X → Type 0) → List X → Type 0
AllOf M [] = Unit {0}
AllOf M (x ∷ xs) = M x × AllOf M xs

pub all_of : {X : Type 0} (M : X → Type 0) (xs : List X) → All M xs → AllOf M xs
all_of M [] all = tt
all_of M (x ∷ xs) all = (all 0 x (omega arith), all_of M xs (λ k d below. all (suc k) d (omega arith)))

-- a value for each of some things
abbrev pub Each : {X : Type 0} → (X → Bool → Type 0) → List X → List Bool → Type 0
Each P [] [] = Unit {0}
Each P [] (b ∷ bs) = ⊥
Each P (x ∷ xs) [] = ⊥
Each P (x ∷ xs) (b ∷ bs) = P x b × Each P xs bs

module _ (covers : List Cover) (given : ℕ) (cone : Cone) (floor : ℕ) where
  -- the nodes and the literals of the signals name earlier ones, and there are at least so many variables
  pub record Ready (now : Frame) : Type 0 where
    pub sound : AreSound given now.nodes
    pub names : IsTrue (clause_within (variables_of given now.nodes) now.literals)
    pub least : floor ≤ variables_of given now.nodes

  pub record Grows (old new : Frame) : Type 0 where
    pub more : List Node
    pub grown : new.nodes ≡ old.nodes ++ more
    pub ready : Ready new
    pub size : length new.literals ≡ length old.literals

  abbrev pub Made : List Node → Built → Type 0
  Made nodes built = (meaning : Assignment → Bool) × Makes covers given nodes built meaning

  pub grows-none : (now : Frame) → Ready now → Grows now now
  grows-none now ready = record { more = []; grown = sym (append-nil now.nodes); ready = ready; size = refl }

  pub grows-then : (first second third : Frame) → Grows first second → Grows second third → Grows first third
  grows-then first second third a b = record {
    more = a.more ++ b.more;
    grown = b.grown ∙ ap (λ n. n ++ b.more) a.grown ∙ append_assoc first.nodes a.more b.more;
    ready = b.ready;
    size = b.size ∙ a.size;
  }

  pub written-grows : (now : Frame) (signal : ℕ) (built : Built) → Ready now → (IsTrue (cone signal) → Made now.nodes built) → Grows now (written cone now signal built)
  written-grows now signal built ready makes = by_cone (cone signal) makes
    where
      by_cone : (t : Bool) → (IsTrue t → Made now.nodes built) → Grows now (cond t (record { nodes = built.nodes; literals = set now.literals signal built.output }) now)
      by_cone true makes =
          let made = makes refl in
          let order : variables_of given now.nodes ≤ variables_of given built.nodes = rw made.1.grown (variables-more given now.nodes made.1.more) in
          record {
            more = made.1.more;
            grown = made.1.grown;
            ready = record {
              sound = made.1.sound;
              names = set-within (variables_of given built.nodes) now.literals signal built.output (wider (variables_of given now.nodes) (variables_of given built.nodes) order now.literals ready.names) made.1.names;
              least = omega (arith, ready.least);
            };
            size = length-set now.literals signal built.output;
          }
      by_cone false makes = grows-none now ready

  module _ (source : Source) (v : Assignment) where
    abbrev pub Holds : List Node → Type 0
    Holds nodes = IsEvaluation covers given source v nodes

    pub earlier : (old new : Frame) → Grows old new → Holds new.nodes → Holds old.nodes
    earlier old new grows holds = before-evaluation covers source v given old.nodes grows.more (subst Holds grows.grown holds)

    pub written-shows : (now : Frame) (signal : ℕ) (built : Built) (valuation : List Bool) (value : Bool) → Holds (written cone now signal built).nodes →
        Shows given cone v now.literals valuation → length now.literals ≡ length valuation → (IsTrue (cone signal) → Holds built.nodes → is_true v built.output ≡ value) →
        Shows given cone v (written cone now signal built).literals (set valuation signal value)
    written-shows now signal built valuation value holds shows size says = by_cone (cone signal) refl holds says
      where
        by_cone : (t : Bool) → cone signal ≡ t → Holds (cond t (record { nodes = built.nodes; literals = set now.literals signal built.output }) now).nodes →
            (IsTrue t → Holds built.nodes → is_true v built.output ≡ value) →
            Shows given cone v (cond t (record { nodes = built.nodes; literals = set now.literals signal built.output }) now).literals (set valuation signal value)
        by_cone true is holds says = λ k inside. same-set (is_true v) (no given) now.literals valuation signal k built.output value size (says refl holds) (shows k inside)
        by_cone false is holds says = λ k inside.
            let apart : k ≡ signal → ⊥ = λ e. (let outside : cone k ≡ false = subst (λ j. cone j ≡ false) (sym e) is in cc) in
            shows k inside ∙ sym (get_or-set_other valuation signal k value false apart)

  -- things of which each writes one signal
  module _ {X : Type 0} (signal : X → ℕ) (make : Frame → X → Built) where
    abbrev pub step : Frame → X → Frame
    step now x = written cone now (signal x) (make now x)

    pub free-grows : (M : X → Type 0) → ((x : X) (now : Frame) → M x → Ready now → Made now.nodes (make now x)) → (xs : List X) (now : Frame) → AllOf M xs → Ready now → Grows now (fold step now xs)
    free-grows M makes [] now members ready = grows-none now ready
    free-grows M makes (x ∷ xs) now members ready =
        let here = written-grows now (signal x) (make now x) ready (λ _. makes x now members.0 ready) in
        grows-then now (step now x) (fold step (step now x) xs) here (free-grows M makes xs (step now x) members.1 here.ready)

    pub record Picked (v : Assignment) (P : X → Bool → Type 0) (xs : List X) (literals : List ℤ) (valuation : List Bool) : Type 0 where
      pub values : List Bool
      pub size : length values ≡ length xs
      pub each : Each P xs values
      pub shows : Shows given cone v literals (with_values (map signal xs) values valuation)

    pub free-shows : (source : Source) (v : Assignment) (M : X → Type 0) (P : X → Bool → Type 0) → ((x : X) (now : Frame) → M x → Ready now → Made now.nodes (make now x)) →
        ((x : X) (now : Frame) → M x → Ready now → (b : Bool) × P x b × (IsTrue (cone (signal x)) → IsEvaluation covers given source v (make now x).nodes → is_true v (make now x).output ≡ b)) →
        (xs : List X) (now : Frame) (valuation : List Bool) → AllOf M xs → Ready now → IsEvaluation covers given source v (fold step now xs).nodes →
        Shows given cone v now.literals valuation → length now.literals ≡ length valuation → Picked v P xs (fold step now xs).literals valuation
    free-shows source v M P makes picks [] now valuation members ready holds shows size = record { values = []; size = refl; each = tt; shows = shows }
    free-shows source v M P makes picks (x ∷ xs) now valuation members ready holds shows size =
        let here = written-grows now (signal x) (make now x) ready (λ _. makes x now members.0 ready) in
        let next = step now x in
        let last = free-grows M makes xs next members.1 here.ready in
        let pick = picks x now members.0 ready in
        let new = set valuation (signal x) pick.0 in
        let shown = written-shows source v now (signal x) (make now x) valuation pick.0 (earlier source v next (fold step next xs) last holds) shows size pick.2 in
        let rest = free-shows source v M P makes picks xs next new members.1 here.ready holds shown (here.size ∙ size ∙ sym (length-set valuation (signal x) pick.0)) in
        record {
          values = pick.0 ∷ rest.values;
          size = omega (arith, rest.size);
          each = (pick.1, rest.each);
          shows = rest.shows;
        }
