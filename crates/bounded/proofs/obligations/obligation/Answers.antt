use Rattle.std.proofs.Common.{◌≡◌, ◌∙◌, ℕ, cond, length, ℤ, List, [], Bor, ap, arith}
use Rattle.std.specs.Option.{option_map}
use Rattle.std.proofs.lemmas.Bool.{lt-ltb}
use Rattle.std.proofs.lemmas.List.{get_or_default}
use Rattle.alternating.specs.Views.{positive_of}
use Rattle.gates_builder.proofs.Growing.{adds-as}
use Rattle.gates_letters.specs.Combinations.{combination_by}
use Rattle.gates_nodes.specs.declared.node.Node.{Node}
use Rattle.gates_nodes.specs.Folding.{Built}
use Rattle.gates_nodes.specs.Nodes.{no}
use Rattle.bounded.specs.Adding.{frame_in}
use Rattle.bounded.specs.Obligations.{literals_before, obligation_built, served}
use Rattle.bounded.specs.Serving.{served_if}
use Rattle.bounded.proofs.Additions.{at-zero}
use Rattle.bounded.proofs.Asking.{same-combination}
use Rattle.bounded.proofs.obligations.obligation.Goals as goal

pub returns : goal.returns
returns c =
    let old = c.args.builder.now in
    let new = c.combination_with.new.builder in
    let places = c.args.places.now in
    let a = places.automaton.now in
    let n = places.last in
    let p = c.args.place in
    let q = c.args.number in
    let frames = c.args.frames.now in
    let later : ℕ → List Node → Built = λ r ns. served_if a n places.before p q r ns in
    let before = option_map (λ (l : Bor (List ℤ)). l.now) c.frame_before-before.result in
    let now = c.as_slice-now.result.now in
    let delta = positive_of c.delta.result.now in
    let here : now ≡ frame_in frames p = c.as_slice-now.ensures ∙ c.index-frames-place.is ∙ get_or_default frames p c.index-frames-place.result [] (omega (arith, c.requires.place, c.requires.size)) in
    let one = at-zero old new (λ g. combination_by g before now later delta old.nodes) c.combination_with.result c.requires.places.given c.combination_with.ensures in
    let same = same-combination before now later (served a n places.before p q) (length a.obligations)
    (λ r ns low. ap (λ b. cond b (served a n places.before p q r ns) (record { nodes = ns; output = no 0 })) (lt-ltb r (length a.obligations) low)) delta c.delta.ensures.below old.nodes in
    adds-as old new (combination_by 0 before now later delta old.nodes) (obligation_built a (frame_in frames) n places.before p q old.nodes) c.combination_with.result
    (same ∙ ap (λ b. combination_by 0 b now (served a n places.before p q) delta old.nodes) c.frame_before-before.ensures
    ∙ ap (λ l. combination_by 0 (literals_before (frame_in frames) p) l (served a n places.before p q) delta old.nodes) here
    ∙ ap (λ d. combination_by 0 (literals_before (frame_in frames) p) (frame_in frames p) (served a n places.before p q) d old.nodes) c.delta.ensures.shown)
    one
