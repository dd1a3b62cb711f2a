use Rattle.std.proofs.Common.{◌^◌, length, get_or, ap, ◌∙◌}
use Rattle.blif_flattening.proofs.Members.{Among-at}
use Rattle.blif_flattening.proofs.Beginning.{room-all, seen-all, found-all}
use Rattle.blif_flattening.proofs.Listed.{cells-all, listed-all, small-all, small-top}
use Rattle.blif_flattening.proofs.hierarchy.flatten.Goals as goal

pub walk-requires-clause-room : goal.walk-requires-clause-room
walk-requires-clause-room g c =
    room-all g.row.L.Denot g.L.Line.mentions c.args.models.now c.levels.result c.levels.ensures c.in_ok-top.top.path c.in_ok-top.ensures.path
    c.open_top.new.out.table.seen (c.in_ok-top.ensures.seen ∙ c.new-out.ensures.seen) (2 ^ 32) c.requires.room

pub returns-clause-signals : goal.returns-clause-signals
returns-clause-signals g c =
    c.seen.ensures
    ∙ ap length (seen-all g.row.L.Denot g.L.Line.mentions c.args.models.now c.levels.result c.levels.ensures c.in_ok-top.top.path c.in_ok-top.ensures.path
    c.open_top.new.out c.walk.new.out c.in_ok-walk.ensures.walks (c.in_ok-top.ensures.seen ∙ c.new-out.ensures.seen))

pub returns-clause-lines : goal.returns-clause-lines
returns-clause-lines g c =
    found-all g.row.L.Denot g.L.Line.mentions c.args.models.now c.levels.result c.levels.ensures c.in_ok-top.top.path c.in_ok-top.ensures.path
    c.open_top.new.out c.walk.new.out c.in_ok-walk.ensures.walks (c.in_ok-top.ensures.seen ∙ c.new-out.ensures.seen)
    (c.in_ok-top.ensures.lines ∙ c.new-out.ensures.lines)

pub walk-requires-clause-small : goal.walk-requires-clause-small
walk-requires-clause-small g c = small-top c.in_ok-top.top.path c.in_ok-top.ensures.path

pub listed-requires : goal.listed-requires
listed-requires g c k d lt =
    cells-all g.row.L.Denot g.L.Line.mentions c.args.models.now c.levels.result c.levels.ensures c.in_ok-top.top.path c.in_ok-top.ensures.path
    c.open_top.new.out.instances c.walk.new.out c.in_ok-walk.ensures.lists (c.in_ok-top.ensures.instances ∙ c.new-out.ensures.instances)
    (get_or c.walk.new.out.instances k d) (Among-at c.walk.new.out.instances k d lt)

pub returns-clause-instances : goal.returns-clause-instances
returns-clause-instances g c =
    c.in_ok-instances.ensures
    ∙ listed-all g.row.L.Denot g.L.Line.mentions c.args.models.now c.levels.result c.levels.ensures c.in_ok-top.top.path c.in_ok-top.ensures.path
    c.open_top.new.out.instances c.walk.new.out c.in_ok-walk.ensures.lists (c.in_ok-top.ensures.instances ∙ c.new-out.ensures.instances)
    (seen-all g.row.L.Denot g.L.Line.mentions c.args.models.now c.levels.result c.levels.ensures c.in_ok-top.top.path c.in_ok-top.ensures.path
    c.open_top.new.out c.walk.new.out c.in_ok-walk.ensures.walks (c.in_ok-top.ensures.seen ∙ c.new-out.ensures.seen))

pub returns-clause-small : goal.returns-clause-small
returns-clause-small g c =
    rw c.in_ok-instances.ensures
    (small-all g.row.L.Denot g.L.Line.mentions c.args.models.now c.levels.result c.levels.ensures c.in_ok-top.top.path c.in_ok-top.ensures.path
    c.open_top.new.out.instances c.walk.new.out c.in_ok-walk.ensures.lists (c.in_ok-top.ensures.instances ∙ c.new-out.ensures.instances))
