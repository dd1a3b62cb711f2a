use Rattle.std.proofs.Common.{◌≡◌, sym, ◌∙◌, ap, false, get_or, arith}
use Rattle.std.proofs.lemmas.List.{get_or_read}
use Rattle.cdcl_trail.specs.Path.{Path}
use Rattle.cdcl_trail.proofs.path.Trail.is_true.Goals as goal

pub returns : goal.returns
returns c =
    let of = c.self.inside in
    let keeps = c.self.invariant in
    let size = keeps.size in
    let variables = ap (λ (p : Path). p.variables) c.self.view_is in
    let literals = ap (λ (p : Path). p.literals) c.self.view_is in
    let read : c.index.result.now ≡ get_or of.marks.items c.args.literal false = get_or_read of.marks.items c.args.literal c.index.result.now (omega (arith, c.requires)) c.index.ensures false in
    rw (← literals) (λ is. keeps.marks.true_ c.args.literal (sym read ∙ is), λ there. read ∙ keeps.marks.marked c.args.literal there)
