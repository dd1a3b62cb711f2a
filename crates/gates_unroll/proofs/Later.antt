-- Frames take no nodes away.
use Rattle.std.proofs.Common.{◌≡◌, ℕ, zero, suc, ◌≤◌, Bool, List, fold, ap, ⊎_elim, arith}
use Rattle.std.proofs.lemmas.Bool.{cases_lt}
use Rattle.netlist.specs.declared.latch.Latch.{Latch}
use Rattle.netlist.specs.Design.{Design}
use Rattle.gates_nodes.specs.declared.cover.Cover.{Cover}
use Rattle.gates_nodes.specs.declared.node.Node.{Node}
use Rattle.gates_nodes.specs.Folding.{Built}
use Rattle.gates_nodes.specs.Nodes.{variables_of}
use Rattle.gates_frames.specs.Frames.{blank, Cone, first_latch, frame_at, frame_by, moved_latch, with_input, with_latch, with_table}
use Rattle.gates_unroll.proofs.Folds.{more-fold}
use Rattle.gates_unroll.proofs.Growing.{inputs-grow, more-first, more-written, tables-grow}

module _ (covers : List Cover) (given : ℕ) (design : Design) (order : List ℕ) (cone : Cone) where
  frame-more : (number : ℕ) (make : List Node → Latch → Built) → ((nodes : List Node) (latch : Latch) → variables_of given nodes ≤ variables_of given (make nodes latch).nodes)
      → (nodes : List Node) → variables_of given nodes ≤ variables_of given (frame_by covers given design order cone number make nodes).nodes
  frame-more number make grows nodes =
      let one = more-fold given (with_input given cone number) (inputs-grow given cone number) (blank given design nodes) design.inputs in
      let two = more-fold given (with_latch cone make) (λ now latch. more-written given cone now latch.output (make now.nodes latch) (grows now.nodes latch))
      (fold (with_input given cone number) (blank given design nodes) design.inputs) design.latches in
      let three = more-fold given (with_table covers given design.tables cone) (tables-grow given covers design.tables cone)
      (fold (with_latch cone make) (fold (with_input given cone number) (blank given design nodes) design.inputs) design.latches) order in
      omega (arith, one, two, three)

  module _ (initial : Bool) (nodes : List Node) where
    next-more : (number : ℕ) → variables_of given (frame_at covers given design order cone initial nodes number).nodes
        ≤ variables_of given (frame_at covers given design order cone initial nodes (suc number)).nodes
    next-more number =
        frame-more (suc number) (moved_latch given (frame_at covers given design order cone initial nodes number).literals) (λ ns latch. omega arith)
        (frame_at covers given design order cone initial nodes number).nodes

    pub first-more : variables_of given nodes ≤ variables_of given (frame_at covers given design order cone initial nodes 0).nodes
    first-more = frame-more 0 (first_latch given initial) (λ ns latch. more-first given initial latch.init ns latch.output) nodes

    pub later-more : (number later : ℕ) → number ≤ later → variables_of given (frame_at covers given design order cone initial nodes number).nodes
        ≤ variables_of given (frame_at covers given design order cone initial nodes later).nodes
    later-more number zero order_is =
        let is : number ≡ 0 = omega arith in
        let same = ap (λ n. variables_of given (frame_at covers given design order cone initial nodes n).nodes) is in
        omega (arith, same)
    later-more number (suc later) order_is =
        let step = next-more later in
        ⊎_elim
        (λ before. (let rest = later-more number later (omega arith) in omega (arith, step, rest)))
        (λ at.
        (let is : number ≡ suc later = omega arith in
        let same = ap (λ n. variables_of given (frame_at covers given design order cone initial nodes n).nodes) is in
        omega (arith, same)))
        (cases_lt number (suc later))
