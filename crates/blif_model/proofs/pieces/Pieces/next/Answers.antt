use Rattle.std.proofs.Common.{◌∙◌, sym, ap, arith}
use Rattle.blif_model.proofs.Going.{at-line_end}
use Rattle.blif_model.proofs.pieces.Pieces.next.Goals as goal

pub returns-in-LineFeed-clause-next : goal.returns-in-LineFeed-clause-next
returns-in-LineFeed-clause-next c =
    ap (λ left. left.pieces) (sym c.self.view_is) ∙ c.piece_start-start.ensures.same ∙ at-line_end c.self.inside.whole.now c.piece_start-start.result (omega (arith, c.if-start-self.false)) (sym c.in-LineFeed.ensures)
