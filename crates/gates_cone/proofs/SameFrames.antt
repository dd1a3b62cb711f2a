-- Frames of two cones that have the same signals of a netlist.
use Rattle.std.proofs.Common.{◌≡◌, ℕ, zero, suc, ◌<◌, Bool, true, cond, get_or, List, [], ◌∷◌, map, fold, length, refl, ap, ◌∙◌, arith}
use Rattle.std.specs.List.{All}
use Rattle.netlist.specs.declared.latch.Latch.{Latch}
use Rattle.netlist.specs.Design.{Design}
use Rattle.netlist.specs.Sound.{IsOrder, IsSound, table_at}
use Rattle.netlist.proofs.Driving.{inputs-within, latches-within, output-within}
use Rattle.gates_nodes.specs.declared.cover.Cover.{Cover}
use Rattle.gates_nodes.specs.declared.node.Node.{Node}
use Rattle.gates_nodes.specs.declared.node.Node.TheVariants.{Free}
use Rattle.gates_nodes.specs.Folding.{Built, with_node}
use Rattle.gates_frames.specs.Frames.{Cone, Frame, blank, first_latch, frame_at, frame_by, literal_at, moved_latch, table_of, with_input, with_latch, with_table, written}

fold-same : {X : Type 0} (f g : Frame → X → Frame) (xs : List X) (a : Frame) → All (λ x. (b : Frame) → f b x ≡ g b x) xs → fold f a xs ≡ fold g a xs
fold-same f g [] a same = refl
fold-same f g (x ∷ xs) a same = ap (λ b. fold f b xs) (same 0 x (omega arith) a) ∙ fold-same f g xs (g a x) (λ k d lt. same (suc k) d (omega arith))

module _ (covers : List Cover) (given : ℕ) (design : Design) (order : List ℕ) (cone other : Cone) (sound : IsSound design) (is_order : IsOrder design.tables order)
    (agree : (signal : ℕ) → signal < design.signals → cone signal ≡ other signal) where
  written-same : (now : Frame) (signal : ℕ) (built : Built) → signal < design.signals → written cone now signal built ≡ written other now signal built
  written-same now signal built below = ap (λ b. cond b (written (λ s. true) now signal built) now) (agree signal below)

  same-by : (number : ℕ) (make : List Node → Latch → Built) (nodes : List Node) → frame_by covers given design order cone number make nodes ≡ frame_by covers given design order other number make nodes
  same-by number make nodes =
      let start = blank given design nodes in
      let inputs = fold (with_input given other number) start design.inputs in
      let latches = fold (with_latch other make) inputs design.latches in
      ap (λ b. fold (with_table covers given design.tables cone) (fold (with_latch cone make) b design.latches) order)
      (fold-same (with_input given cone number) (with_input given other number) design.inputs start
      (λ k d lt b. written-same b (get_or design.inputs k d) (with_node given b.nodes (Free number (get_or design.inputs k d))) (inputs-within design sound k d lt)))
      ∙ ap (λ b. fold (with_table covers given design.tables cone) b order)
      (fold-same (with_latch cone make) (with_latch other make) design.latches inputs
      (λ k d lt b. written-same b (get_or design.latches k d).output (make b.nodes (get_or design.latches k d)) (latches-within design sound k d lt)))
      ∙ fold-same (with_table covers given design.tables cone) (with_table covers given design.tables other) order latches
      (λ k d lt b. by_table (get_or order k d) b (is_order.within k d lt))
    where
      by_table : (number : ℕ) (b : Frame) → number < length design.tables → with_table covers given design.tables cone b number ≡ with_table covers given design.tables other b number
      by_table number b lt =
          written-same b (table_at design.tables number).output
          (table_of covers given b.nodes number (table_at design.tables number) (map (literal_at given b.literals) (table_at design.tables number).inputs)) (output-within design sound number lt)

  frames-same : (initial : Bool) (nodes : List Node) (number : ℕ) → frame_at covers given design order cone initial nodes number ≡ frame_at covers given design order other initial nodes number
  frames-same initial nodes zero = same-by 0 (first_latch given initial) nodes
  frames-same initial nodes (suc number) =
      ap (λ (f : Frame). frame_by covers given design order cone (suc number) (moved_latch given f.literals) f.nodes) (frames-same initial nodes number)
      ∙ same-by (suc number) (moved_latch given (frame_at covers given design order other initial nodes number).literals) (frame_at covers given design order other initial nodes number).nodes

pub same-frames : (covers : List Cover) (given : ℕ) (design : Design) (order : List ℕ) (cone other : Cone) (initial : Bool) (nodes : List Node) (number : ℕ) → IsSound design → IsOrder design.tables order →
    ((signal : ℕ) → signal < design.signals → cone signal ≡ other signal) →
    frame_at covers given design order cone initial nodes number ≡ frame_at covers given design order other initial nodes number
same-frames covers given design order cone other initial nodes number sound is_order agree = frames-same covers given design order cone other sound is_order agree initial nodes number
