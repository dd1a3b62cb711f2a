use Rattle.std.proofs.Common.{rules, List, ℤ, Bor, w32}
use mir.Val.{SFits}
use Rattle.std.specs.Option.{option_map}
use Rattle.std.proofs.lemmas.Int.{to_z-of_z}
use Rattle.std.proofs.lemmas.Result.{err_from_is_err_and}
use Rattle.psl_tree.specs.Trees as trees
use Rattle.psl_tree.specs.declared.boolean.Bool.{the_lemmas}
use Rattle.gates_nodes.specs.Folding.{conjoined, either}
use Rattle.gates_builder.proofs.Growing.{all-more, more-conjoined, of-added, of-more}
use Rattle.gates_letters.specs.Booleans.{boolean_built}
use Rattle.gates_letters.proofs.Growing.{before-more, first-fails, more-boolean, more-by, more-either, second-fails}
use Rattle.gates_letters.proofs.booleans.+boolean_of.Goals as goal

pub returns-in_err-left-in-And : goal.returns-in_err-left-in-And
returns-in_err-left-in-And t c =
    let old = c.args.builder.now in
    let now = c.args.now.now in
    let before = option_map (λ (l : Bor (List ℤ)). l.now) c.args.before in
    let left = trees.boolean_of c.in-And.left.value in
    let right = trees.boolean_of c.in-And.right.value in
    let failed = rw c.deref-in-And.ensures at c.in_err-left-in-And.ensures in
    let p = err_from_is_err_and c.from_residual-in_err-left-in-And.result c.from_residual-in_err-left-in-And.ensures.1 in
    rw (p.1, p.2, c.in-And.is) (first-fails conjoined (λ g. boolean_built g before now left) (λ g. boolean_built g before now right) old c.boolean_of-in-And.new.builder c.in_err-left-in-And.field-0.0 (more-conjoined old.given) (more-boolean old.given before now right) failed)

pub boolean_of-requires-in-And-2 : goal.boolean_of-requires-in-And-2
boolean_of-requires-in-And-2 t c =
    let old = c.args.builder.now in
    let now = c.args.now.now in
    let before = option_map (λ (l : Bor (List ℤ)). l.now) c.args.before in
    let left = trees.boolean_of c.in-And.left.value in
    let mid = c.boolean_of-in-And.new.builder in
    let one = rw c.deref-in-And.ensures at c.in_ok-left-in-And.ensures in
    let more = more-by old mid (λ g. boolean_built g before now left) c.in_ok-left-in-And.left (more-boolean old.given before now left) one in
    (search (rules, the_lemmas), (before-more old mid (λ (l : Bor (List ℤ)). l.now) c.args.before more c.requires.before, all-more old mid now more c.requires.now))

pub returns-in_err-right-in-And : goal.returns-in_err-right-in-And
returns-in_err-right-in-And t c =
    let old = c.args.builder.now in
    let now = c.args.now.now in
    let before = option_map (λ (l : Bor (List ℤ)). l.now) c.args.before in
    let left = trees.boolean_of c.in-And.left.value in
    let right = trees.boolean_of c.in-And.right.value in
    let one = rw c.deref-in-And.ensures at c.in_ok-left-in-And.ensures in
    let failed = rw c.deref-in-And-2.ensures at c.in_err-right-in-And.ensures in
    let p = err_from_is_err_and c.from_residual-in_err-right-in-And.result c.from_residual-in_err-right-in-And.ensures.1 in
    rw (p.1, p.2, c.in-And.is) (second-fails conjoined (λ g. boolean_built g before now left) (λ g. boolean_built g before now right) old c.boolean_of-in-And.new.builder c.boolean_of-in-And-2.new.builder c.in_ok-left-in-And.left c.in_err-right-in-And.field-0.0 (more-conjoined old.given) one failed)

pub and-requires-clause-first : goal.and-requires-clause-first
and-requires-clause-first t c =
    let now = c.args.now.now in
    let before = option_map (λ (l : Bor (List ℤ)). l.now) c.args.before in
    let right = trees.boolean_of c.in-And.right.value in
    let mid = c.boolean_of-in-And.new.builder in
    let next = c.boolean_of-in-And-2.new.builder in
    let fits_left : SFits w32 c.in_ok-left-in-And.left = search rules in
    let two = rw c.deref-in-And-2.ensures at c.in_ok-right-in-And.ensures in
    let more = more-by mid next (λ g. boolean_built g before now right) c.in_ok-right-in-And.right (more-boolean mid.given before now right) two in
    rw to_z-of_z (of-more mid next c.in_ok-left-in-And.left more (of-added c.args.builder.now mid _ c.in_ok-left-in-And.left c.in_ok-left-in-And.ensures))

pub returns-in_err-left-in-Or : goal.returns-in_err-left-in-Or
returns-in_err-left-in-Or t c =
    let old = c.args.builder.now in
    let now = c.args.now.now in
    let before = option_map (λ (l : Bor (List ℤ)). l.now) c.args.before in
    let left = trees.boolean_of c.in-Or.left.value in
    let right = trees.boolean_of c.in-Or.right.value in
    let failed = rw c.deref-in-Or.ensures at c.in_err-left-in-Or.ensures in
    let p = err_from_is_err_and c.from_residual-in_err-left-in-Or.result c.from_residual-in_err-left-in-Or.ensures.1 in
    rw (p.1, p.2, c.in-Or.is) (first-fails either (λ g. boolean_built g before now left) (λ g. boolean_built g before now right) old c.boolean_of-in-Or.new.builder c.in_err-left-in-Or.field-0.0 (more-either old.given) (more-boolean old.given before now right) failed)

pub boolean_of-requires-in-Or-2 : goal.boolean_of-requires-in-Or-2
boolean_of-requires-in-Or-2 t c =
    let old = c.args.builder.now in
    let now = c.args.now.now in
    let before = option_map (λ (l : Bor (List ℤ)). l.now) c.args.before in
    let left = trees.boolean_of c.in-Or.left.value in
    let mid = c.boolean_of-in-Or.new.builder in
    let one = rw c.deref-in-Or.ensures at c.in_ok-left-in-Or.ensures in
    let more = more-by old mid (λ g. boolean_built g before now left) c.in_ok-left-in-Or.left (more-boolean old.given before now left) one in
    (search (rules, the_lemmas), (before-more old mid (λ (l : Bor (List ℤ)). l.now) c.args.before more c.requires.before, all-more old mid now more c.requires.now))

pub returns-in_err-right-in-Or : goal.returns-in_err-right-in-Or
returns-in_err-right-in-Or t c =
    let old = c.args.builder.now in
    let now = c.args.now.now in
    let before = option_map (λ (l : Bor (List ℤ)). l.now) c.args.before in
    let left = trees.boolean_of c.in-Or.left.value in
    let right = trees.boolean_of c.in-Or.right.value in
    let one = rw c.deref-in-Or.ensures at c.in_ok-left-in-Or.ensures in
    let failed = rw c.deref-in-Or-2.ensures at c.in_err-right-in-Or.ensures in
    let p = err_from_is_err_and c.from_residual-in_err-right-in-Or.result c.from_residual-in_err-right-in-Or.ensures.1 in
    rw (p.1, p.2, c.in-Or.is) (second-fails either (λ g. boolean_built g before now left) (λ g. boolean_built g before now right) old c.boolean_of-in-Or.new.builder c.boolean_of-in-Or-2.new.builder c.in_ok-left-in-Or.left c.in_err-right-in-Or.field-0.0 (more-either old.given) one failed)

pub or-requires-clause-first : goal.or-requires-clause-first
or-requires-clause-first t c =
    let now = c.args.now.now in
    let before = option_map (λ (l : Bor (List ℤ)). l.now) c.args.before in
    let right = trees.boolean_of c.in-Or.right.value in
    let mid = c.boolean_of-in-Or.new.builder in
    let next = c.boolean_of-in-Or-2.new.builder in
    let fits_left : SFits w32 c.in_ok-left-in-Or.left = search rules in
    let two = rw c.deref-in-Or-2.ensures at c.in_ok-right-in-Or.ensures in
    let more = more-by mid next (λ g. boolean_built g before now right) c.in_ok-right-in-Or.right (more-boolean mid.given before now right) two in
    rw to_z-of_z (of-more mid next c.in_ok-left-in-Or.left more (of-added c.args.builder.now mid _ c.in_ok-left-in-Or.left c.in_ok-left-in-Or.ensures))
