use Rattle.std.proofs.Common.{rules, List, ℤ, Bor, w32}
use mir.Val.{SFits}
use Rattle.std.specs.Option.{option_map}
use Rattle.std.proofs.lemmas.Int.{to_z-of_z}
use Rattle.std.proofs.lemmas.Result.{err_from_is_err_and}
use Rattle.alternating.specs.Views.{positive_of}
use Rattle.alternating.specs.declared.positive.Positive.{the_lemmas}
use Rattle.gates_nodes.specs.Folding.{conjoined, either}
use Rattle.gates_builder.proofs.Growing.{all-more, more-conjoined, of-added, of-more}
use Rattle.gates_letters.specs.Combinations.{combination_by}
use Rattle.gates_letters.proofs.Growing.{before-more, extends-combination, first-fails, more-combination, more-by, more-either, ready-still, second-fails}
use Rattle.gates_letters.proofs.combinations.+combination_with.Goals as goal

pub returns-in_err-left-in-And : goal.returns-in_err-left-in-And
returns-in_err-left-in-And g t c =
    let old = c.args.builder.now in
    let now = c.args.now.now in
    let made = g.L.Later.made c.args.later.now in
    let before = option_map (λ (l : Bor (List ℤ)). l.now) c.args.before in
    let left = positive_of c.in-And.left.value in
    let right = positive_of c.in-And.right.value in
    let failed = rw c.deref.ensures at c.in_err-left-in-And.ensures in
    let p = err_from_is_err_and c.from_residual.result c.from_residual.ensures.1 in
    rw (p.1, p.2, c.in-And.is) (first-fails conjoined (λ n. combination_by n before now (made n) left) (λ n. combination_by n before now (made n) right) old c.combination_with.new.builder c.in_err-left-in-And.field-0.0 (more-conjoined old.given) (more-combination old.given before now (made old.given) (g.met.L.Later.grows c.args.later.now old.given) right) failed)

pub combination_with-requires-in-And : goal.combination_with-requires-in-And
combination_with-requires-in-And g t c =
    let old = c.args.builder.now in
    let now = c.args.now.now in
    let made = g.L.Later.made c.args.later.now in
    let before = option_map (λ (l : Bor (List ℤ)). l.now) c.args.before in
    let left = positive_of c.in-And.left.value in
    let mid = c.combination_with.new.builder in
    let one = rw c.deref.ensures at c.in_ok-left-in-And.ensures in
    let more = more-by old mid (λ n. combination_by n before now (made n) left) c.in_ok-left-in-And.left (more-combination old.given before now (made old.given) (g.met.L.Later.grows c.args.later.now old.given) left) one in
    let part = combination_by old.given before now (made old.given) left old.nodes in
    let extends = extends-combination old.given before now (made old.given) (g.met.L.Later.grows c.args.later.now old.given) left old.nodes in
    let ready_on = ready-still (g.L.Later.ready c.args.later.now) old mid part.nodes one.making (g.met.L.Later.stays c.args.later.now old part.nodes c.requires.later extends) in
    λ lifetimes inside. (search (rules, the_lemmas), (inside, (before-more old mid (λ (l : Bor (List ℤ)). l.now) c.args.before more c.requires.before, (all-more old mid now more c.requires.now, ready_on))))

pub returns-in_err-right-in-And : goal.returns-in_err-right-in-And
returns-in_err-right-in-And g t c =
    let old = c.args.builder.now in
    let now = c.args.now.now in
    let made = g.L.Later.made c.args.later.now in
    let before = option_map (λ (l : Bor (List ℤ)). l.now) c.args.before in
    let left = positive_of c.in-And.left.value in
    let right = positive_of c.in-And.right.value in
    let one = rw c.deref.ensures at c.in_ok-left-in-And.ensures in
    let failed = rw c.deref-in-And.ensures at c.in_err-right-in-And.ensures in
    let p = err_from_is_err_and c.from_residual-in_err-right-in-And.result c.from_residual-in_err-right-in-And.ensures.1 in
    rw (p.1, p.2, c.in-And.is) (second-fails conjoined (λ n. combination_by n before now (made n) left) (λ n. combination_by n before now (made n) right) old c.combination_with.new.builder c.combination_with-in-And.new.builder c.in_ok-left-in-And.left c.in_err-right-in-And.field-0.0 (more-conjoined old.given) one failed)

pub and-requires-clause-first : goal.and-requires-clause-first
and-requires-clause-first g t c =
    let now = c.args.now.now in
    let made = g.L.Later.made c.args.later.now in
    let before = option_map (λ (l : Bor (List ℤ)). l.now) c.args.before in
    let right = positive_of c.in-And.right.value in
    let mid = c.combination_with.new.builder in
    let next = c.combination_with-in-And.new.builder in
    let fits_left : SFits w32 c.in_ok-left-in-And.left = search rules in
    let two = rw c.deref-in-And.ensures at c.in_ok-right-in-And.ensures in
    let more = more-by mid next (λ n. combination_by n before now (made n) right) c.in_ok-right-in-And.right (more-combination mid.given before now (made mid.given) (g.met.L.Later.grows c.args.later.now mid.given) right) two in
    rw to_z-of_z (of-more mid next c.in_ok-left-in-And.left more (of-added c.args.builder.now mid _ c.in_ok-left-in-And.left c.in_ok-left-in-And.ensures))

pub returns-in_err-left-in-Or : goal.returns-in_err-left-in-Or
returns-in_err-left-in-Or g t c =
    let old = c.args.builder.now in
    let now = c.args.now.now in
    let made = g.L.Later.made c.args.later.now in
    let before = option_map (λ (l : Bor (List ℤ)). l.now) c.args.before in
    let left = positive_of c.in-Or.left.value in
    let right = positive_of c.in-Or.right.value in
    let failed = rw c.deref-in-Or.ensures at c.in_err-left-in-Or.ensures in
    let p = err_from_is_err_and c.from_residual-in_err-left-in-Or.result c.from_residual-in_err-left-in-Or.ensures.1 in
    rw (p.1, p.2, c.in-Or.is) (first-fails either (λ n. combination_by n before now (made n) left) (λ n. combination_by n before now (made n) right) old c.combination_with-in-Or.new.builder c.in_err-left-in-Or.field-0.0 (more-either old.given) (more-combination old.given before now (made old.given) (g.met.L.Later.grows c.args.later.now old.given) right) failed)

pub combination_with-requires-in-Or-2 : goal.combination_with-requires-in-Or-2
combination_with-requires-in-Or-2 g t c =
    let old = c.args.builder.now in
    let now = c.args.now.now in
    let made = g.L.Later.made c.args.later.now in
    let before = option_map (λ (l : Bor (List ℤ)). l.now) c.args.before in
    let left = positive_of c.in-Or.left.value in
    let mid = c.combination_with-in-Or.new.builder in
    let one = rw c.deref-in-Or.ensures at c.in_ok-left-in-Or.ensures in
    let more = more-by old mid (λ n. combination_by n before now (made n) left) c.in_ok-left-in-Or.left (more-combination old.given before now (made old.given) (g.met.L.Later.grows c.args.later.now old.given) left) one in
    let part = combination_by old.given before now (made old.given) left old.nodes in
    let extends = extends-combination old.given before now (made old.given) (g.met.L.Later.grows c.args.later.now old.given) left old.nodes in
    let ready_on = ready-still (g.L.Later.ready c.args.later.now) old mid part.nodes one.making (g.met.L.Later.stays c.args.later.now old part.nodes c.requires.later extends) in
    λ lifetimes inside. (search (rules, the_lemmas), (inside, (before-more old mid (λ (l : Bor (List ℤ)). l.now) c.args.before more c.requires.before, (all-more old mid now more c.requires.now, ready_on))))

pub returns-in_err-right-in-Or : goal.returns-in_err-right-in-Or
returns-in_err-right-in-Or g t c =
    let old = c.args.builder.now in
    let now = c.args.now.now in
    let made = g.L.Later.made c.args.later.now in
    let before = option_map (λ (l : Bor (List ℤ)). l.now) c.args.before in
    let left = positive_of c.in-Or.left.value in
    let right = positive_of c.in-Or.right.value in
    let one = rw c.deref-in-Or.ensures at c.in_ok-left-in-Or.ensures in
    let failed = rw c.deref-in-Or-2.ensures at c.in_err-right-in-Or.ensures in
    let p = err_from_is_err_and c.from_residual-in_err-right-in-Or.result c.from_residual-in_err-right-in-Or.ensures.1 in
    rw (p.1, p.2, c.in-Or.is) (second-fails either (λ n. combination_by n before now (made n) left) (λ n. combination_by n before now (made n) right) old c.combination_with-in-Or.new.builder c.combination_with-in-Or-2.new.builder c.in_ok-left-in-Or.left c.in_err-right-in-Or.field-0.0 (more-either old.given) one failed)

pub or-requires-clause-first : goal.or-requires-clause-first
or-requires-clause-first g t c =
    let now = c.args.now.now in
    let made = g.L.Later.made c.args.later.now in
    let before = option_map (λ (l : Bor (List ℤ)). l.now) c.args.before in
    let right = positive_of c.in-Or.right.value in
    let mid = c.combination_with-in-Or.new.builder in
    let next = c.combination_with-in-Or-2.new.builder in
    let fits_left : SFits w32 c.in_ok-left-in-Or.left = search rules in
    let two = rw c.deref-in-Or-2.ensures at c.in_ok-right-in-Or.ensures in
    let more = more-by mid next (λ n. combination_by n before now (made n) right) c.in_ok-right-in-Or.right (more-combination mid.given before now (made mid.given) (g.met.L.Later.grows c.args.later.now mid.given) right) two in
    rw to_z-of_z (of-more mid next c.in_ok-left-in-Or.left more (of-added c.args.builder.now mid _ c.in_ok-left-in-Or.left c.in_ok-left-in-Or.ensures))
