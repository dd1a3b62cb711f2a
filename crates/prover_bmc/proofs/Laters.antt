-- Literals of a builder stay its literals when nodes are added to it.
use Rattle.std.proofs.Common.{Bor, ℕ, ◌≤◌, ℤ, List, Option, None, Some, Ok, refl, ap, ◌∙◌, arith}
use Rattle.std.specs.Option.{IfSome}
use Rattle.alternating_theory.specs.Positive.{Positive}
use Rattle.alternating_theory.specs.Obligations.{Automaton}
use Rattle.gates_nodes.specs.declared.node.Node.TheVariants.{Free}
use Rattle.gates_nodes.specs.Folding.{Built, conjoined, either, with_node}
use Rattle.gates_nodes.specs.Nodes.{variables_of}
use Rattle.gates_builder.specs.Adding.{Adds, AreOf, IsOf, Making}
use Rattle.gates_builder.proofs.Growing.{all-more, more-added, more-conjoined, more-push, of-more}
use Rattle.gates_letters.specs.Combinations.{combination_built, listed}
use Rattle.gates_letters.specs.Extending.{extends-same}
use Rattle.gates_letters.proofs.Growing.{more-combination, more-either}
use Rattle.gates_frames.specs.Frames.{Frame}
use Rattle.gates_unroll.specs.Adding.{AddsFrame}
use Rattle.netlist.specs.Design.{Design}
use Rattle.prover_bmc.specs.Later.{IsLater}
use Rattle.prover_bmc.specs.Chains.{IsLink}
use Rattle.prover_bmc.specs.Plans.{AreDebts, IsFrame, IsPlace}
use Rattle.prover_bmc.specs.declared.dues.Place.{Place}
use Rattle.prover_bmc.specs.declared.link.Link.{Link}
use Rattle.prover_bmc.specs.declared.plan.Plan.{Plan}

pub later-refl : (making : Making) → IsLater making making
later-refl making = record { covers = refl; more = omega arith }

pub later-then : (old mid new : Making) → IsLater old mid → IsLater mid new → IsLater old new
later-then old mid new first then = record { covers = then.covers ∙ first.covers; more = omega (arith, first.more, then.more) }

-- a part that adds nodes
pub later-added : (old new : Making) (built : Built) (l : ℤ) → variables_of old.given old.nodes ≤ variables_of old.given built.nodes → Adds old new built (Ok l) → IsLater old new
later-added old new built l more adds = record { covers = ap (λ (m : Making). m.covers) adds.making; more = more-added old new built l more adds }

pub later-free : (old new : Making) (frame bit : ℕ) (l : ℤ) → Adds old new (with_node old.given old.nodes (Free frame bit)) (Ok l) → IsLater old new
later-free old new frame bit l adds =
    later-added old new (with_node old.given old.nodes (Free frame bit)) l (omega (arith, more-push old.given old.nodes (Free frame bit))) adds

pub later-combination : (old new : Making) (before : Option (List ℤ)) (now next : List ℤ) (positive : Positive) (l : ℤ) → Adds old new (combination_built old.given before now next positive old.nodes) (Ok l) → IsLater old new
later-combination old new before now next positive l adds =
    later-added old new (combination_built old.given before now next positive old.nodes) l (more-combination old.given before now (listed old.given next) (λ number nodes. extends-same nodes) positive old.nodes) adds

pub later-both : (old new : Making) (first second l : ℤ) → Adds old new (conjoined old.given old.nodes first second) (Ok l) → IsLater old new
later-both old new first second l adds =
    later-added old new (conjoined old.given old.nodes first second) l (more-conjoined old.given old.nodes first second) adds

pub later-either : (old new : Making) (first second l : ℤ) → Adds old new (either old.given old.nodes first second) (Ok l) → IsLater old new
later-either old new first second l adds =
    later-added old new (either old.given old.nodes first second) l (more-either old.given old.nodes first second) adds

pub later-frame : (old new : Making) (frame : Frame) (literals : List ℤ) → AddsFrame old new frame (Ok literals) → IsLater old new
later-frame old new frame literals adds = record { covers = ap (λ (m : Making). m.covers) adds.making; more = adds.more }

pub of-later : (old new : Making) (l : ℤ) → IsLater old new → IsOf old l → IsOf new l
of-later old new l later of = of-more old new l later.more of

pub are-later : (old new : Making) (literals : List ℤ) → IsLater old new → AreOf old literals → AreOf new literals
are-later old new literals later of = all-more old new literals later.more of

pub frame-later : (old new : Making) (design : Design) (literals : List ℤ) → IsLater old new → IsFrame old design literals → IsFrame new design literals
frame-later old new design literals later frame = record { size = frame.size; are = are-later old new literals later frame.are }

pub debts-later : (old new : Making) (automaton : Automaton) (literals : List ℤ) → IsLater old new → AreDebts old automaton literals → AreDebts new automaton literals
debts-later old new automaton literals later debts = record { size = debts.size; are = are-later old new literals later debts.are }

-- so do those of a frame before, if there is one
pub before-later : {X : Type 0} (old new : Making) (design : Design) (list : X → List ℤ) (before : Option X) → IsLater old new → IfSome before (λ x. IsFrame old design (list x)) → IfSome before (λ x. AreOf new (list x))
before-later old new design list None later frame = tt
before-later old new design list (Some x) later frame = are-later old new (list x) later frame.are

-- so does what a place is about
pub earlier-later : (old new : Making) (before : Option (Bor (List ℤ))) → IsLater old new → IfSome before (λ literals. AreOf old literals.now) → IfSome before (λ literals. AreOf new literals.now)
earlier-later old new None later is = tt
earlier-later old new (Some literals) later is = are-later old new literals.now later is

pub place-later : (old new : Making) (place : Place) → IsLater old new → IsPlace old place → IsPlace new place
place-later old new place later is = record {
  before = earlier-later old new place.before later is.before;
  now = are-later old new place.now.now later is.now;
  later = are-later old new place.later.now later is.later;
}

-- and the literals of a place
pub link-later : (old new : Making) (plan : Plan) (link : Link) → IsLater old new → IsLink old plan link → IsLink new plan link
link-later old new plan link later is = record {
  frame = frame-later old new plan.netlist.now link.frame later is.frame;
  debts = debts-later old new plan.automaton.now link.debts later is.debts;
  pending = debts-later old new plan.automaton.now link.pending later is.pending;
}

pub links-later : (old new : Making) (plan : Plan) (link : Option (Bor Link)) → IsLater old new → IfSome link (λ link. IsLink old plan link.now) → IfSome link (λ link. IsLink new plan link.now)
links-later old new plan None later is = tt
links-later old new plan (Some link) later is = link-later old new plan link.now later is

pub held-later : (old new : Making) (plan : Plan) (link : Option Link) → IsLater old new → IfSome link (IsLink old plan) → IfSome link (IsLink new plan)
held-later old new plan None later is = tt
held-later old new plan (Some link) later is = link-later old new plan link later is

-- the frame of a place, if there is one
pub frame-of : (making : Making) (plan : Plan) (link : Option (Bor Link)) → IfSome link (λ link. IsLink making plan link.now) → IfSome link (λ link. AreOf making link.now.frame)
frame-of making plan None is = tt
frame-of making plan (Some link) is = is.frame.are
