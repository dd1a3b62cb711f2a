use Rattle.std.proofs.Common.{length, sym, ap, ◌∙◌}
use Rattle.psl_sugar.specs.Kept.{bits_in}
use Rattle.psl_sugar.proofs.Vectors.{side-length}
use Rattle.psl_sugar.proofs.vector.Vector.width.Goals as goal

pub returns-in-SideBySide : goal.returns-in-SideBySide
returns-in-SideBySide c =
    sym (side-length c.in-SideBySide.signal c.in-SideBySide.lowest c.in-SideBySide.width)
    ∙ ap (λ bits. length (bits_in bits)) (sym c.in-SideBySide.is)
    ∙ ap length c.self.view_is
