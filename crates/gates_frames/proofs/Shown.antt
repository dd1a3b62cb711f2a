-- A frame shows a valuation.
use Rattle.std.proofs.Common.{◌≡◌, ℕ, zero, suc, ◌+◌, ◌<◌, ◌≤◌, ℤ, Bool, true, false, not, cond, List, [], ◌∷◌, ◌++◌, map, fold, length, replicate, set, get_or, refl, sym, ap, ◌∙◌, subst, arith, length-append, length-set}
use Rattle.std.specs.Bool.{IsTrue}
use Rattle.std.specs.List.{All}
use Rattle.std.proofs.lemmas.List.{length-map, length-replicate, map-append}
use Rattle.std.proofs.lemmas.List.Elements.{All-cons, All-nil}
use Rattle.clauses.specs.Literals.{clause_within, is_within}
use Rattle.clauses.specs.Models.{Assignment, is_true}
use Rattle.netlist.specs.declared.latch.Latch.{Latch}
use Rattle.netlist.specs.declared.table.Table.{Table}
use Rattle.netlist.specs.Design.{Design, free_of}
use Rattle.netlist.specs.Filling.{with_output, with_outputs, with_values}
use Rattle.netlist.specs.Sound.{IsOrder, IsSound, no_table, table_at}
use Rattle.netlist.specs.Valuations.{bit, output_by, output_in, values, IsFilled, IsValuation}
use Rattle.netlist.proofs.Filled.{filled, filled-free, filled-valuation, length-with_values, with_values-append}
use Rattle.netlist.proofs.Uniqueness.{one-valuation}
use Rattle.gates_nodes.specs.declared.cover.Cover.{Cover}
use Rattle.gates_nodes.specs.declared.node.Node.{Node}
use Rattle.gates_nodes.specs.declared.node.Node.TheVariants.{Free}
use Rattle.gates_nodes.specs.Folding.{Built, with_node}
use Rattle.gates_nodes.specs.Makes.{AreSound, Makes}
use Rattle.gates_nodes.specs.Nodes.{IsEvaluation, Source, no, variables_of}
use Rattle.gates_nodes.proofs.Folds.{no-false}
use Rattle.gates_nodes.proofs.Literals.{first_within, more_within, no-within, rest_within}
use Rattle.gates_nodes.proofs.Making.{makes-node}
use Rattle.gates_nodes.proofs.Values.{new-value}
use Rattle.gates_frames.specs.Frames.{AreCovers, Cone, Frame, IsClosed, blank, frame_by, literal_at, table_of, with_input, with_latch, with_table}
use Rattle.gates_frames.specs.Paths.{Shows}
use Rattle.gates_frames.proofs.Outputs.{table-made}
use Rattle.gates_frames.proofs.Stages.{AllOf, Each, Grows, Holds, Made, Picked, Ready, all_of, earlier, free-grows, free-shows, grows-none, grows-then, written-grows, written-shows}

-- the literals of signals
pub at_within : (n given : ℕ) (literals : List ℤ) (signal : ℕ) → suc given ≤ n → IsTrue (clause_within n literals) → IsTrue (is_within n (literal_at given literals signal))
at_within n given [] signal few within = no-within n given few
at_within n given (l ∷ literals) zero few within = first_within n l literals within
at_within n given (l ∷ literals) (suc signal) few within = at_within n given literals signal few (rest_within n l literals within)

reads_within : (n given : ℕ) (literals : List ℤ) (signals : List ℕ) → suc given ≤ n → IsTrue (clause_within n literals) → IsTrue (clause_within n (map (literal_at given literals) signals))
reads_within n given literals [] few within = refl
reads_within n given literals (s ∷ signals) few within =
    more_within n (literal_at given literals s) (map (literal_at given literals) signals) (at_within n given literals s few within) (reads_within n given literals signals few within)

reads-show : (given : ℕ) (cone : Cone) (v : Assignment) (literals : List ℤ) (valuation : List Bool) (signals : List ℕ) → Shows given cone v literals valuation → All (λ signal. IsTrue (cone signal)) signals →
    map (is_true v) (map (literal_at given literals) signals) ≡ values valuation signals
reads-show given cone v literals valuation [] shows inside = refl
reads-show given cone v literals valuation (s ∷ signals) shows inside =
    rw (shows s (inside 0 s (omega arith)), reads-show given cone v literals valuation signals shows (λ k d below. inside (suc k) d (omega arith))) refl

-- a frame without literals
all-no : (n given count : ℕ) → suc given ≤ n → IsTrue (clause_within n (replicate count (no given)))
all-no n given zero few = refl
all-no n given (suc count) few = more_within n (no given) (replicate count (no given)) (no-within n given few) (all-no n given count few)

no-at : (given count k : ℕ) → literal_at given (replicate count (no given)) k ≡ no given
no-at given zero k = refl
no-at given (suc count) zero = refl
no-at given (suc count) (suc k) = no-at given count k

false-at : (count k : ℕ) → bit (replicate count false) k ≡ false
false-at zero k = refl
false-at (suc count) zero = refl
false-at (suc count) (suc k) = false-at count k

-- two lists one behind another
parts-same : (a b c d : List Bool) → length a ≡ length b → a ++ c ≡ b ++ d → (a ≡ b) × (c ≡ d)
parts-same [] [] c d size same = (refl, same)
parts-same [] (y ∷ b) c d size same = absurd (omega arith)
parts-same (x ∷ a) [] c d size same = absurd (omega arith)
parts-same (x ∷ a) (y ∷ b) c d size same =
    let rest : a ++ c ≡ b ++ d = cc in
    let first : x ≡ y = cc in
    let parts = parts-same a b c d (omega arith) rest in
    (rw (first, parts.0) refl, parts.1)

map-same : (xs : List ℕ) → map (λ x. x) xs ≡ xs
map-same [] = refl
map-same (x ∷ xs) = ap (λ rest. x ∷ rest) (map-same xs)

each-all : {X : Type 0} (signal : X → ℕ) (P : X → Bool → Type 0) (xs : List X) (bs valuation : List Bool) → map (bit valuation) (map signal xs) ≡ bs → Each P xs bs → All (λ x. P x (bit valuation (signal x))) xs
each-all {X} signal P [] bs valuation same each = All-nil (λ x. P x (bit valuation (signal x)))
each-all {X} signal P (x ∷ xs) [] valuation same each = elim each [ ]
each-all {X} signal P (x ∷ xs) (b ∷ bs) valuation same each =
    let here : bit valuation (signal x) ≡ b = cc in
    let rest : map (bit valuation) (map signal xs) ≡ bs = cc in
    All-cons (λ x. P x (bit valuation (signal x))) x xs (subst (P x) (sym here) each.0) (each-all signal P xs bs valuation rest each.1)

all-map : {X : Type 0} (f g : X → Bool) (xs : List X) → All (λ x. f x ≡ g x) xs → map f xs ≡ map g xs
all-map f g [] all = refl
all-map f g (x ∷ xs) all =
    let here : f x ≡ g x = all 0 x (omega arith) in
    rw (here, all-map f g xs (λ k d below. all (suc k) d (omega arith))) refl

-- what frames stand on
pub record Setting (covers : List Cover) (design : Design) (order : List ℕ) (cone : Cone) : Type 0 where
  pub sound : IsSound design
  pub ordered : IsOrder design.tables order
  pub closed : IsClosed design cone
  pub covered : AreCovers design.tables covers

module _ (covers : List Cover) (given : ℕ) (design : Design) (order : List ℕ) (cone : Cone) (setting : Setting covers design order cone) (floor : ℕ) where
  abbrev table_step : Frame → ℕ → Frame
  table_step = with_table covers given design.tables cone

  abbrev table_built : Frame → ℕ → Built
  table_built now number = table_of covers given now.nodes number (table_at design.tables number) (map (literal_at given now.literals) (table_at design.tables number).inputs)

  abbrev says_of : Frame → ℕ → Assignment → Bool
  says_of now number v = output_by (table_at design.tables number) (map (is_true v) (map (literal_at given now.literals) (table_at design.tables number).inputs))

  table-makes : (now : Frame) (number : ℕ) → number < length design.tables → Ready covers given cone floor now → Makes covers given now.nodes (table_built now number) (says_of now number)
  table-makes now number below ready =
      let table = table_at design.tables number in
      let n = variables_of given now.nodes in
      table-made covers given now.nodes number table (map (literal_at given now.literals) table.inputs) ready.sound (reads_within n given now.literals table.inputs (omega arith) ready.names)
      (setting.covered.each number) (setting.covered.are number below) (setting.sound.marks number no_table below) (length-map table.inputs (literal_at given now.literals))

  table-grows : (now : Frame) (number : ℕ) → number < length design.tables → Ready covers given cone floor now → Grows covers given cone floor now (table_step now number)
  table-grows now number below ready =
      written-grows covers given cone floor now (table_at design.tables number).output (table_built now number) ready (λ _. (says_of now number, table-makes now number below ready))

  pub tables-grow : (numbers : List ℕ) (now : Frame) → AllOf (λ number. number < length design.tables) numbers → Ready covers given cone floor now → Grows covers given cone floor now (fold table_step now numbers)
  tables-grow [] now below ready = grows-none covers given cone floor now ready
  tables-grow (number ∷ numbers) now below ready =
      let here = table-grows now number below.0 ready in
      grows-then covers given cone floor now (table_step now number) (fold table_step (table_step now number) numbers) here (tables-grow numbers (table_step now number) below.1 here.ready)

  pub tables-show : (source : Source) (v : Assignment) (numbers : List ℕ) (now : Frame) (valuation : List Bool) → AllOf (λ number. number < length design.tables) numbers → Ready covers given cone floor now →
      IsEvaluation covers given source v (fold table_step now numbers).nodes → Shows given cone v now.literals valuation → length now.literals ≡ length valuation →
      Shows given cone v (fold table_step now numbers).literals (with_outputs design.tables numbers valuation)
  tables-show source v [] now valuation below ready holds shows size = shows
  tables-show source v (number ∷ numbers) now valuation below ready holds shows size =
      let table = table_at design.tables number in
      let here = table-grows now number below.0 ready in
      let next = table_step now number in
      let last = tables-grow numbers next below.1 here.ready in
      let value = output_in valuation table in
      let makes = table-makes now number below.0 ready in
      let shown = written-shows covers given cone floor source v now table.output (table_built now number) valuation value (earlier covers given cone floor source v next (fold table_step next numbers) last holds) shows size
      (λ inside is. makes.value source v is
      ∙ ap (output_by table) (reads-show given cone v now.literals valuation table.inputs shows (setting.closed.tables number no_table below.0 inside))) in
      tables-show source v numbers next (set valuation table.output value) below.1 here.ready holds shown (here.size ∙ size ∙ sym (length-set valuation table.output value))

-- one frame
module _ (covers : List Cover) (given : ℕ) (design : Design) (order : List ℕ) (cone : Cone) (setting : Setting covers design order cone) (number : ℕ) (make : List Node → Latch → Built) (nodes : List Node) where
  abbrev low : ℕ
  low = variables_of given nodes

  abbrev pub IsReady : Frame → Type 0
  IsReady = Ready covers given cone low

  abbrev free_input : Frame → ℕ → Built
  free_input now signal = with_node given now.nodes (Free number signal)

  abbrev latch_built : Frame → Latch → Built
  latch_built now latch = make now.nodes latch

  abbrev output_of : Latch → ℕ
  output_of latch = latch.output

  abbrev Any : ℕ → Type 0
  Any signal = Unit {0}

  any-all : (xs : List ℕ) → AllOf Any xs
  any-all [] = tt
  any-all (x ∷ xs) = (tt, any-all xs)

  input-makes : (signal : ℕ) (now : Frame) → Any signal → IsReady now → Made covers given cone low now.nodes (free_input now signal)
  input-makes signal now member ready =
      let at = suc (variables_of given now.nodes) in (
        λ v. v at,
        makes-node covers given now.nodes (Free number signal) (λ v. v at) ready.sound refl
            (λ source v before is e. ap (λ k. source number signal (v (suc k))) e ∙ sym (new-value covers source v given now.nodes (Free number signal) is)),
      )

  blank-ready : AreSound given nodes → IsReady (blank given design nodes)
  blank-ready sound = record { sound = sound; names = all-no low given design.signals (omega arith); least = omega arith }

  abbrev with_inputs : Frame
  with_inputs = fold (with_input given cone number) (blank given design nodes) design.inputs

  abbrev with_latches : Frame
  with_latches = fold (with_latch cone make) with_inputs design.latches

  abbrev whole : Frame
  whole = frame_by covers given design order cone number make nodes

  inputs-grow : AreSound given nodes → Grows covers given cone low (blank given design nodes) with_inputs
  inputs-grow sound = free-grows covers given cone low (λ signal. signal) free_input Any input-makes design.inputs (blank given design nodes) (any-all design.inputs) (blank-ready sound)

  -- what is asked of the way in which latches are made
  abbrev pub Makes_latches : (Latch → Type 0) → Type 0
  Makes_latches M = (latch : Latch) (now : Frame) → M latch → IsReady now → Made covers given cone low now.nodes (make now.nodes latch)

  latches-grow : (M : Latch → Type 0) → Makes_latches M → AreSound given nodes → AllOf M design.latches → Grows covers given cone low with_inputs with_latches
  latches-grow M makes sound members = free-grows covers given cone low output_of latch_built M makes design.latches with_inputs members (inputs-grow sound).ready

  numbers-below : AllOf (λ table. table < length design.tables) order
  numbers-below = all_of (λ table. table < length design.tables) order setting.ordered.within

  outputs-grow : (M : Latch → Type 0) → Makes_latches M → AreSound given nodes → AllOf M design.latches → Grows covers given cone low with_latches whole
  outputs-grow M makes sound members = tables-grow covers given design order cone setting low order with_latches numbers-below (latches-grow M makes sound members).ready

  pub frame-grows : (M : Latch → Type 0) → Makes_latches M → AreSound given nodes → AllOf M design.latches → Grows covers given cone low (blank given design nodes) whole
  frame-grows M makes sound members =
      grows-then covers given cone low (blank given design nodes) with_inputs whole (inputs-grow sound)
      (grows-then covers given cone low with_inputs with_latches whole (latches-grow M makes sound members) (outputs-grow M makes sound members))

  pub record Shown (v : Assignment) (P : Latch → Bool → Type 0) (Q : ℕ → Bool → Type 0) (literals : List ℤ) : Type 0 where
    pub valuation : List Bool
    pub is : IsValuation design valuation
    pub of_inputs : All (λ signal. Q signal (bit valuation signal)) design.inputs
    pub of_latches : All (λ latch. P latch (bit valuation latch.output)) design.latches
    pub shows : Shows given cone v literals valuation

  -- what the values of inputs and latches are
  abbrev pub Picks_inputs : Source → Assignment → (ℕ → Bool → Type 0) → Type 0
  Picks_inputs source v Q = (signal : ℕ) (now : Frame) → Any signal → IsReady now → (b : Bool) × Q signal b
      × (IsTrue (cone signal) → IsEvaluation covers given source v (free_input now signal).nodes → is_true v (free_input now signal).output ≡ b)

  abbrev pub Picks_latches : Source → Assignment → (Latch → Type 0) → (Latch → Bool → Type 0) → Type 0
  Picks_latches source v M P = (latch : Latch) (now : Frame) → M latch → IsReady now → (b : Bool) × P latch b
      × (IsTrue (cone latch.output) → IsEvaluation covers given source v (make now.nodes latch).nodes → is_true v (make now.nodes latch).output ≡ b)

  pub frame-shows : (source : Source) (v : Assignment) (M : Latch → Type 0) (P : Latch → Bool → Type 0) (Q : ℕ → Bool → Type 0) → Makes_latches M → Picks_latches source v M P → Picks_inputs source v Q →
      AreSound given nodes → AllOf M design.latches → IsEvaluation covers given source v whole.nodes → Shown v P Q whole.literals
  frame-shows source v M P Q makes picks_latches picks_inputs sound members holds =
      let outputs = map output_of design.latches in
      let empty = replicate design.signals false in
      let start = blank given design nodes in
      let one = inputs-grow sound in
      let two = latches-grow M makes sound members in
      let three = outputs-grow M makes sound members in
      let holds_two = earlier covers given cone low source v with_latches whole three holds in
      let holds_one = earlier covers given cone low source v with_inputs with_latches two holds_two in
      let size : length start.literals ≡ length empty = length-replicate design.signals (no given) ∙ sym (length-replicate design.signals false) in
      let shows_none : Shows given cone v start.literals empty = λ k inside.
      ap (is_true v) (no-at given design.signals k) ∙ no-false v given holds.yes ∙ sym (false-at design.signals k) in
      let inputs = free-shows covers given cone low (λ signal. signal) free_input source v Any Q input-makes picks_inputs design.inputs start empty (any-all design.inputs) (blank-ready sound) holds_one shows_none size in
      let first = with_values design.inputs inputs.values empty in
      let shows_one : Shows given cone v with_inputs.literals first = subst (λ signals. Shows given cone v with_inputs.literals (with_values signals inputs.values empty)) (map-same design.inputs) inputs.shows in
      let size_one : length with_inputs.literals ≡ length first = one.size ∙ size ∙ sym (length-with_values design.inputs inputs.values empty) in
      let latches = free-shows covers given cone low output_of latch_built source v M P makes picks_latches design.latches with_inputs first members one.ready holds_two shows_one size_one in
      let second = with_values outputs latches.values first in
      let size_two : length with_latches.literals ≡ length second = two.size ∙ size_one ∙ sym (length-with_values outputs latches.values first) in
      let shows_two = tables-show covers given design order cone setting low source v order with_latches second numbers-below two.ready holds latches.shows size_two in
      let values_all = inputs.values ++ latches.values in
      let last = filled design order values_all empty in
      let e : with_outputs design.tables order second ≡ last =
      ap (with_outputs design.tables order) (sym (with_values-append design.inputs outputs inputs.values latches.values empty inputs.size)) in
      let room : length empty ≡ design.signals = length-replicate design.signals false in
      let fits : length values_all ≡ length (free_of design) =
      omega (arith, length-append inputs.values latches.values, length-append design.inputs outputs, length-map design.latches output_of, inputs.size, latches.size) in
      let has : values last (free_of design) ≡ values_all = filled-free design order setting.sound setting.ordered values_all empty room fits in
      let parts = parts-same (values last design.inputs) inputs.values (values last outputs) latches.values (length-map design.inputs (bit last) ∙ sym inputs.size)
      (sym (map-append (bit last) design.inputs outputs) ∙ has) in
      record {
        valuation = last;
        is = filled-valuation design order setting.sound setting.ordered values_all empty room;
        of_inputs = each-all (λ signal. signal) Q design.inputs inputs.values last (ap (map (bit last)) (map-same design.inputs) ∙ parts.0) inputs.each;
        of_latches = each-all output_of P design.latches latches.values last parts.1 latches.each;
        shows = subst (Shows given cone v whole.literals) e shows_two;
      }

  all-values : {X : Type 0} (signal : X → ℕ) (xs : List X) (left right : List Bool) → All (λ x. bit left (signal x) ≡ bit right (signal x)) xs → map (bit left) (map signal xs) ≡ map (bit right) (map signal xs)
  all-values signal [] left right all = refl
  all-values signal (x ∷ xs) left right all =
      let here : bit left (signal x) ≡ bit right (signal x) = all 0 x (omega arith) in
      rw (here, all-values signal xs left right (λ k d below. all (suc k) d (omega arith))) refl

  -- a valuation with these values of inputs and latches is shown
  pub shown-is : (v : Assignment) (literals : List ℤ) (valuation : List Bool) → IsValuation design valuation →
      Shown v (λ latch b. b ≡ bit valuation latch.output) (λ signal b. b ≡ bit valuation signal) literals → Shows given cone v literals valuation
  shown-is v literals valuation is shown =
      let outputs = map output_of design.latches in
      let left = shown.valuation in
      let inputs : values left design.inputs ≡ values valuation design.inputs =
      subst (λ signals. map (bit left) signals ≡ map (bit valuation) signals) (map-same design.inputs) (all-values (λ signal. signal) design.inputs left valuation shown.of_inputs) in
      let latches : values left outputs ≡ values valuation outputs = all-values output_of design.latches left valuation shown.of_latches in
      let has : values left (free_of design) ≡ values valuation (free_of design) =
      map-append (bit left) design.inputs outputs ∙ ap (λ x. x ++ values left outputs) inputs ∙ ap (λ x. values valuation design.inputs ++ x) latches ∙ sym (map-append (bit valuation) design.inputs outputs) in
      let same : left ≡ valuation = one-valuation design order setting.sound setting.ordered (values valuation (free_of design)) left valuation (record { is = shown.is; has = has }) (record { is = is; has = refl }) in
      subst (Shows given cone v literals) same shown.shows
