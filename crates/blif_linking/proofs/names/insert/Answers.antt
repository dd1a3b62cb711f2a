use Rattle.std.proofs.Common.{◌∙◌, not, sym, ap}
use Rattle.blif_linking.specs.Interfaces.{is_one_of}
use Rattle.blif_linking.proofs.Sets.{by-new, by-old, one-of-some}
use Rattle.blif_linking.proofs.names.insert.Goals as goal

pub returns-then-is_some-clause-names : goal.returns-then-is_some-clause-names
returns-then-is_some-clause-names c =
    let names = c.args.names.now in
    let name = c.args.name.now in
    let is = one-of-some names name c.find.result c.is_some.result c.find.ensures.is c.is_some.ensures in
    sym (by-old (is_one_of names name) names name (sym is ∙ c.if-is_some.true))

pub returns-then-is_some-clause-fresh : goal.returns-then-is_some-clause-fresh
returns-then-is_some-clause-fresh c =
    let is = one-of-some c.args.names.now c.args.name.now c.find.result c.is_some.result c.find.ensures.is c.is_some.ensures in
    sym (ap not (sym is ∙ c.if-is_some.true))

pub returns-clause-names : goal.returns-clause-names
returns-clause-names c =
    let names = c.args.names.now in
    let name = c.args.name.now in
    let is = one-of-some names name c.find.result c.is_some.result c.find.ensures.is c.is_some.ensures in
    c.in_ok-add.ensures.ok ∙ sym (by-new (is_one_of names name) names name (sym is ∙ c.if-is_some.false))

pub returns-clause-fresh : goal.returns-clause-fresh
returns-clause-fresh c =
    let is = one-of-some c.args.names.now c.args.name.now c.find.result c.is_some.result c.find.ensures.is c.is_some.ensures in
    sym (ap not (sym is ∙ c.if-is_some.false))
