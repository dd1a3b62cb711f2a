-- What frames and the bits of places cost as nodes.
use Rattle.std.proofs.Common.{◌≡◌, inl, inr, ℕ, zero, suc, ◌+◌, ◌*◌, ◌≤◌, ℤ, Bool, true, false, List, [], ◌∷◌, map, fold, length, refl, sym, ap, ◌∙◌, subst, arith, suc-mul}
use Rattle.std.specs.List.{All, flat_map, range_with_len, sum_by}
use Rattle.std.proofs.lemmas.Bool.{cases_lt, cond_both}
use Rattle.std.proofs.lemmas.List.{get_or_past}
use Rattle.std.proofs.lemmas.List.Concat.{flat_map-cons}
use Rattle.std.proofs.lemmas.List.FromFn.{length-range_with_len}
use Rattle.std.proofs.lemmas.List.Sums.{sum_by-append, sum_by-cons}
use Rattle.alternating_theory.specs.Obligations.{Automaton, Obligation}
use Rattle.bounded_theory.specs.Digits.{number_width}
use Rattle.bounded_theory.proofs.Digits.{width-few}
use Rattle.gates_covers.specs.Greedy.{covers_of}
use Rattle.gates_frames.specs.Frames.{Cone, Frame, blank, first_by, first_latch, frame_at, frame_by, moved_latch, with_input, with_latch, with_table, written}
use Rattle.gates_nodes.specs.declared.cover.Cover.{Cover}
use Rattle.gates_nodes.specs.declared.node.Node.{Node}
use Rattle.gates_nodes.specs.declared.node.Node.TheVariants.{Free}
use Rattle.gates_nodes.specs.Folding.{Built, with_node}
use Rattle.gates_order.specs.Depths.{order_of}
use Rattle.netlist.specs.declared.latch.Init.{Init}
use Rattle.netlist.specs.declared.latch.Init.TheVariants as inits
use Rattle.netlist.specs.declared.latch.Latch.{Latch}
use Rattle.netlist.specs.declared.rows.Mark.{Mark}
use Rattle.netlist.specs.declared.table.Table.{Table}
use Rattle.netlist.specs.Design.{Design, marks_of}
use Rattle.netlist.specs.Sound.{IsSound, no_table, table_at}
use Rattle.bounded.specs.Places.{bits_of, block, digits_of, place_bits, place_nodes}
use Rattle.bounded.specs.Searches.{search_cone, search_frame}
use Rattle.bounded.proofs.Costs.{cost, costs, costs-push}
use Rattle.bounded.proofs.Covering.{table_most, with_table-costs}
use Rattle.bounded.proofs.Ordered.{order-most}

-- one part of a frame behind another
module _ (covers : List Cover) where
  parts-costs : {X : Type 0} → (step : Frame → X → Frame) (most : X → ℕ) → ((now : Frame) (x : X) → costs covers (step now x).nodes ≤ costs covers now.nodes + most x)
      → (xs : List X) (now : Frame) → costs covers (fold step now xs).nodes ≤ costs covers now.nodes + sum_by most xs
  parts-costs step most each [] now = omega arith
  parts-costs step most each (x ∷ xs) now = omega (arith, each now x, parts-costs step most each xs (step now x), sum_by-cons most x xs)

  few-costs : {X : Type 0} → (step : Frame → X → Frame) → ((now : Frame) (x : X) → costs covers (step now x).nodes ≤ costs covers now.nodes + 1)
      → (xs : List X) (now : Frame) → costs covers (fold step now xs).nodes ≤ costs covers now.nodes + length xs
  few-costs step each [] now = omega arith
  few-costs step each (x ∷ xs) now = omega (arith, each now x, few-costs step each xs (step now x))

  written-costs : (cone : Cone) (now : Frame) (signal most : ℕ) (built : Built) → costs covers built.nodes ≤ costs covers now.nodes + most
      → costs covers (written cone now signal built).nodes ≤ costs covers now.nodes + most
  written-costs cone now signal most built few =
      cond_both (cone signal) _ now (λ (f : Frame). costs covers f.nodes ≤ costs covers now.nodes + most) (λ e. few) (λ e. omega arith)

  free-costs : (nodes : List Node) (frame bit : ℕ) → costs covers (with_node 0 nodes (Free frame bit)).nodes ≤ costs covers nodes + 1
  free-costs nodes frame bit = omega (arith, costs-push covers nodes (Free frame bit))

  -- each input and each latch is at most one free node
  input-costs : (cone : Cone) (number : ℕ) (now : Frame) (signal : ℕ) → costs covers (with_input 0 cone number now signal).nodes ≤ costs covers now.nodes + 1
  input-costs cone number now signal = written-costs cone now signal 1 (with_node 0 now.nodes (Free number signal)) (free-costs now.nodes number signal)

  abbrev FewLatches : (List Node → Latch → Built) → Type 0
  FewLatches make = (nodes : List Node) (latch : Latch) → costs covers (make nodes latch).nodes ≤ costs covers nodes + 1

  first-costs : (initial : Bool) → FewLatches (first_latch 0 initial)
  first-costs initial nodes latch = by initial latch.init
    where
      by : (initial : Bool) (init : Init) → costs covers (first_by 0 initial init nodes latch.output).nodes ≤ costs covers nodes + 1
      by true inits.Zero = omega arith
      by true inits.One = omega arith
      by true inits.Free = free-costs nodes 0 latch.output
      by false init = free-costs nodes 0 latch.output

  moved-costs : (before : List ℤ) → FewLatches (moved_latch 0 before)
  moved-costs before nodes latch = omega arith

  latch-costs : (cone : Cone) (make : List Node → Latch → Built) → FewLatches make → (now : Frame) (latch : Latch) → costs covers (with_latch cone make now latch).nodes ≤ costs covers now.nodes + 1
  latch-costs cone make few now latch = written-costs cone now latch.output 1 (make now.nodes latch) (few now.nodes latch)

-- rows have as many marks as their table has inputs, also where there is no table
abbrev HasMarks : Table → Type 0
HasMarks table = All (λ row. length row ≡ length table.inputs) table.rows

marks-at : (d : Design) → IsSound d → (number : ℕ) → HasMarks (table_at d.tables number)
marks-at d sound number = elim (cases_lt number (length d.tables)) [
  | inl low ↦ sound.marks number no_table low
  | inr high ↦ subst HasMarks (sym (get_or_past d.tables number no_table high)) (λ k e low. absurd (omega arith))
]

-- what a frame costs at most
abbrev pub frame_most : Design → ℕ
frame_most d = length d.inputs + length d.latches + 487 * length d.tables + 22 * marks_of d.tables

tables-most : (tables : List Table) → sum_by table_most tables ≡ 487 * length tables + 22 * marks_of tables
tables-most [] = refl
tables-most (table ∷ tables) =
    omega (arith, sum_by-cons table_most table tables, tables-most tables, sum_by-cons (λ (t : Table). sum_by (length {A = Mark}) t.rows) table tables)

module _ (d : Design) (sound : IsSound d) (cone : Cone) where
  abbrev covers : List Cover
  covers = covers_of d.tables

  abbrev order : List ℕ
  order = order_of d.tables

  frame-costs : (number : ℕ) (make : List Node → Latch → Built) → FewLatches covers make → (nodes : List Node)
      → costs covers (frame_by covers 0 d order cone number make nodes).nodes ≤ costs covers nodes + frame_most d
  frame-costs number make few nodes =
      let begun = blank 0 d nodes in
      let inputs = fold (with_input 0 cone number) begun d.inputs in
      let latches = fold (with_latch cone make) inputs d.latches in
      let one = few-costs covers (with_input 0 cone number) (input-costs covers cone number) d.inputs begun in
      let two = few-costs covers (with_latch cone make) (latch-costs covers cone make few) d.latches inputs in
      let three = parts-costs covers (with_table covers 0 d.tables cone) (λ n. table_most (table_at d.tables n)) (λ now n. with_table-costs d.tables cone now n (marks-at d sound n)) order latches in
      omega (arith, one, two, three, order-most table_most d.tables, tables-most d.tables)

  frames-costs : (initial : Bool) (number : ℕ) → costs covers (frame_at covers 0 d order cone initial [] number).nodes ≤ suc number * frame_most d
  frames-costs initial zero = omega (arith, frame-costs 0 (first_latch 0 initial) (first-costs covers initial) [], suc-mul 0 (frame_most d))
  frames-costs initial (suc number) =
      let before = frame_at covers 0 d order cone initial [] number in
      omega (
        arith,
        frame-costs (suc number) (moved_latch 0 before.literals) (moved-costs covers before.literals) before.nodes,
        frames-costs initial number,
        suc-mul (suc number) (frame_most d),
      )

pub search_frame-costs : (d : Design) (a : Automaton) → IsSound d → (number : ℕ) → costs (covers_of d.tables) (search_frame d a number).nodes ≤ suc number * frame_most d
unfolding search_frame
search_frame-costs d a sound number = frames-costs d sound (search_cone d a) true number

-- the bits of places are free nodes
module _ (covers : List Cover) where
  frees-costs : (label : ℕ) (bits : List ℕ) → costs covers (map (λ bit. Free label bit) bits) ≡ length bits
  frees-costs label [] = refl
  frees-costs label (bit ∷ bits) = omega (arith, frees-costs label bits, sum_by-cons (cost covers) (Free label bit) (map (λ other. Free label other) bits))

  block-costs : (label size : ℕ) → costs covers (block label size) ≡ size
  block-costs label size = frees-costs label (range_with_len 0 size) ∙ length-range_with_len 0 size

  blocks-costs : (base size : ℕ) (places : List ℕ) → costs covers (flat_map (λ place. block (base + place) size) places) ≡ length places * size
  blocks-costs base size [] = omega arith
  blocks-costs base size (place ∷ places) =
      let rest = flat_map (λ other. block (base + other) size) places in
      let whole = ap (λ (l : List Node). costs covers l) (flat_map-cons (λ other. block (base + other) size) place places) in
      omega (
        arith,
        whole,
        sum_by-append (cost covers) (block (base + place) size) rest,
        block-costs (base + place) size,
        blocks-costs base size places,
        suc-mul (length places) size,
      )

  pub places-costs : (a : Automaton) (n : ℕ) → costs covers (place_nodes a n) ≡ suc (suc n) * place_bits a + n
  places-costs a n =
      let front = flat_map (λ place. block (suc n + place) (place_bits a)) (range_with_len 0 (suc (suc n))) in
      let product = ap (λ k. k * place_bits a) (length-range_with_len 0 (suc (suc n))) in
      omega (
        arith,
        sum_by-append (cost covers) front (block (suc n + suc (suc n)) n),
        blocks-costs (suc n) (place_bits a) (range_with_len 0 (suc (suc n))),
        block-costs (suc n + suc (suc n)) n,
        product,
      )

pub digits-most : (width : ℕ) (obligation : Obligation) → digits_of width obligation ≤ width
digits-most width obligation = cond_both obligation.accepting 0 width (λ k. k ≤ width) (λ e. omega arith) (λ e. omega arith)

bits-most : (obligations : List Obligation) (width : ℕ) → width ≤ 12 → bits_of width obligations ≤ 13 * length obligations
bits-most [] width few = omega arith
bits-most (obligation ∷ obligations) width few =
    omega (arith, few, digits-most width obligation, bits-most obligations width few, sum_by-cons (λ (o : Obligation). suc (digits_of width o)) obligation obligations)

pub place-most : (a : Automaton) → length a.obligations ≤ 2048 → place_bits a ≤ 13 * length a.obligations
place-most a few = bits-most a.obligations (number_width (length a.obligations)) (width-few (length a.obligations) few)
