use Rattle.std.proofs.Common.{◌≤◌, ◌-◌, ◌^◌, [], ◌∷◌, length, slice_get, ap, refl, ◌∙◌, sym, subst, arith}
use Rattle.blif_flattening.specs.Hierarchy.{items_of, mentioned, lines_by, expand}
use Rattle.blif_flattening.specs.Cells.{SignalTable}
use Rattle.blif_flattening.specs.Instances.{IsOpened}
use Rattle.blif_flattening.specs.Listing.{instances_from}
use Rattle.blif_flattening.specs.Numbers.{onto}
use Rattle.blif_flattening.specs.Walks.{Walks}
use Rattle.blif_flattening.proofs.Listed.{Lists-none, Lists-self, Lists-after, level-step, listing-start, listing-next, listing-end, small-below}
use Rattle.blif_flattening.proofs.Visiting.{names-within, cells-within, room-line, Walks-line, items_of-get, items_of-none, model-read, model-none}
use Rattle.blif_flattening.proofs.Placing.{fresh-below, Grows-placed, fresh-next, Walks-after}
use Rattle.blif_flattening.proofs.Walking.{IsOpened-grown, walking-start, placed-as, room-item, walking-next, walking-end}
use Rattle.blif_flattening.proofs.Stepping.{expand-step, Walks-nothing}
use Rattle.blif_flattening.proofs.walk.+walking.Goals as goal

pub visit-add_line-requires-clause-names : goal.visit-add_line-requires-clause-names
visit-add_line-requires-clause-names g t c =
    let listed = rw c.in-Own.is at c.requires.listed in
    rw c.mentions.ensures
    (names-within g.row.L.Denot g.L.Line.mentions c.args.inside.models.now c.requires.named c.args.inside.instance.now c.args.out.now.table.owners c.requires.opened
    c.args.item c.in-Own.line listed)

pub visit-add_line-requires-clause-cells : goal.visit-add_line-requires-clause-cells
visit-add_line-requires-clause-cells g t c =
    let listed = rw c.in-Own.is at c.requires.listed in
    cells-within g.row.L.Denot g.L.Line.mentions c.args.inside.models.now c.requires.named c.args.inside.instance.now c.args.out.now.table.owners c.requires.opened
    c.args.item c.in-Own.line listed

pub visit-add_line-requires-clause-room : goal.visit-add_line-requires-clause-room
visit-add_line-requires-clause-room g t c =
    let listed = rw c.in-Own.is at c.requires.listed in
    let room = rw c.in-Own.is at c.requires.room in
    rw c.mentions.ensures
    (room-line g.row.L.Denot g.L.Line.mentions c.args.inside.models.now c.requires.named c.args.inside.instance.now c.args.out.now.table.owners c.requires.opened
    c.args.item c.in-Own.line listed c.args.out.now.table.seen (2 ^ 32) room)

pub visit-returns-in_ok-add_line-in-Own-clause-walks : goal.visit-returns-in_ok-add_line-in-Own-clause-walks
visit-returns-in_ok-add_line-in-Own-clause-walks g t c =
    let listed = rw c.in-Own.is at c.requires.listed in
    let adds = rw c.mentions.ensures at c.in_ok-add_line-in-Own.ensures in
    rw c.in-Own.is
    (Walks-line g.row.L.Denot g.L.Line.mentions c.args.inside.models.now c.requires.named c.args.inside.instance.now c.args.out.now.table.owners c.requires.opened
    c.args.item c.in-Own.line listed c.args.out.now c.add_line.new.out refl adds)

pub visit-walk-requires : goal.visit-walk-requires
visit-walk-requires g t c κs within =
    let placed = rw c.in-Place.is at c.requires.placed in
    let room = rw c.in-Place.is at c.requires.room in
    let path = c.in_ok-child-in-Place.ensures.path in
    let opens = rw path at c.in_ok-child-in-Place.ensures.opens in (
      omega (arith, c.decreases),
      (
        within,
        (
          c.requires.named,
          (
            c.in_ok-child-in-Place.ensures.opened,
            (
              rw path (small-below c.args.inside.instance.now.path c.args.k c.requires.few c.requires.small),
              (
                rw path
                    (fresh-below g.row.L.Denot g.L.Line.mentions c.args.inside.models.now c.requires.named c.args.inside.instance.now c.args.out.now.table.owners c.requires.opened c.args.k
                    c.in-Place.placement placed c.requires.fresh _ c.open_placement.new.out.table.owners c.open_placement.new.out.table.owners opens),
                rw (path, c.in_ok-child-in-Place.ensures.seen) room,
              ),
            ),
          ),
        ),
      ),
    )

pub visit-returns-in_ok-walk-in-Place-clause-walks : goal.visit-returns-in_ok-walk-in-Place-clause-walks
visit-returns-in_ok-walk-in-Place-clause-walks g t c =
    let walks = rw c.in_ok-child-in-Place.ensures.path at c.in_ok-walk-in-Place.ensures.walks in
    rw c.in-Place.is
    (Walks-after g.row.L.Denot g.L.Line.mentions c.args.inside.models.now (expand c.args.inside.models.now c.args.inside.levels (c.args.k ∷ c.args.inside.instance.now.path)) c.args.out.now c.open_placement.new.out c.walk.new.out
    c.in_ok-child-in-Place.ensures.seen c.in_ok-child-in-Place.ensures.lines walks)

pub visit-returns-in_ok-add_line-in-Own-clause-lists : goal.visit-returns-in_ok-add_line-in-Own-clause-lists
visit-returns-in_ok-add_line-in-Own-clause-lists g t c =
    rw c.in-Own.is
    (Lists-none g.row.L.Denot g.L.Line.mentions c.args.inside.models.now c.args.out.now.instances c.add_line.new.out c.in_ok-add_line-in-Own.ensures.instances)

pub visit-returns-in_ok-walk-in-Place-clause-lists : goal.visit-returns-in_ok-walk-in-Place-clause-lists
visit-returns-in_ok-walk-in-Place-clause-lists g t c =
    let lists = rw c.in_ok-child-in-Place.ensures.path at c.in_ok-walk-in-Place.ensures.lists in
    rw c.in-Place.is
    (Lists-after g.row.L.Denot g.L.Line.mentions c.args.inside.models.now (instances_from c.args.inside.models.now c.args.inside.levels (c.args.k ∷ c.args.inside.instance.now.path))
    c.args.out.now.instances c.open_placement.new.out.instances c.walk.new.out c.in_ok-child-in-Place.ensures.instances lists)

pub visit-returns-in_ok-walk-in-Place-clause-grows : goal.visit-returns-in_ok-walk-in-Place-clause-grows
visit-returns-in_ok-walk-in-Place-clause-grows g t c =
    let placed = rw c.in-Place.is at c.requires.placed in
    let opens = rw c.in_ok-child-in-Place.ensures.path at c.in_ok-child-in-Place.ensures.opens in
    let grows = rw c.in_ok-child-in-Place.ensures.path at c.in_ok-walk-in-Place.ensures.grows in
    Grows-placed g.row.L.Denot g.L.Line.mentions c.args.inside.models.now c.requires.named c.args.inside.instance.now c.args.out.now.table.owners c.requires.opened c.args.k
    c.in-Place.placement placed c.requires.fresh _ c.open_placement.new.out.table.owners c.walk.new.out.table.owners opens grows

pub visit-returns-in_ok-walk-in-Place-clause-fresh : goal.visit-returns-in_ok-walk-in-Place-clause-fresh
visit-returns-in_ok-walk-in-Place-clause-fresh g t c =
    let placed = rw c.in-Place.is at c.requires.placed in
    let opens = rw c.in_ok-child-in-Place.ensures.path at c.in_ok-child-in-Place.ensures.opens in
    let grows = rw c.in_ok-child-in-Place.ensures.path at c.in_ok-walk-in-Place.ensures.grows in
    fresh-next g.row.L.Denot g.L.Line.mentions c.args.inside.models.now c.requires.named c.args.inside.instance.now c.args.out.now.table.owners c.requires.opened c.args.k
    c.in-Place.placement placed c.requires.fresh _ c.open_placement.new.out.table.owners c.walk.new.out.table.owners opens grows

pub walk-returns-in_default-clause-walks : goal.walk-returns-in_default-clause-walks
walk-returns-in_default-clause-walks g t c =
    Walks-nothing g.row.L.Denot g.L.Line.mentions c.args.models.now c.args.levels c.args.instance.now.path c.args.instance.now.model c.args.out.now c.list.new.self
    c.list.ensures.table c.list.ensures.lines
    c.if-levels-eq0.false c.requires.opened.model
    (items_of-none c.args.models.now c.args.instance.now.model
    (model-none c.args.models.now c.as_slice.result.now c.args.instance.now.model c.as_slice.ensures c.in_default.ensures.lookup.3))

pub walk-returns-in_default-clause-lists : goal.walk-returns-in_default-clause-lists
walk-returns-in_default-clause-lists g t c =
    let none = items_of-none c.args.models.now c.args.instance.now.model
    (model-none c.args.models.now c.as_slice.result.now c.args.instance.now.model c.as_slice.ensures c.in_default.ensures.lookup.3) in
    rw (level-step c.args.models.now c.args.levels c.args.instance.now.path c.args.instance.now.model [] c.if-levels-eq0.false c.requires.opened.model none)
    (Lists-self g.row.L.Denot g.L.Line.mentions c.args.models.now c.args.instance.now c.args.out.now.instances c.list.new.self c.in_ok-list.ensures.instances
    (subst (λ (table : SignalTable). IsOpened c.args.models.now table.owners c.args.instance.now) (sym c.list.ensures.table) c.requires.opened) c.requires.small)

pub walk-returns-then-levels-eq0-clause-lists : goal.walk-returns-then-levels-eq0-clause-lists
walk-returns-then-levels-eq0-clause-lists g t c =
    rw c.if-levels-eq0.true
    (Lists-none g.row.L.Denot g.L.Line.mentions c.args.models.now c.args.out.now.instances c.args.out.now refl)

pub walk-loop-item-init : goal.walk-loop-item-init
walk-loop-item-init g t c = record {
  walking = walking-start g.row.L.Denot g.L.Line.mentions c.args.models.now c.args.instance.now.path (expand c.args.models.now (c.args.levels - 1))
      c.in-Some.model.now.items c.args.out.now c.list.new.self c.list.ensures.table c.list.ensures.lines c.requires.fresh;
  listing = listing-start g.row.L.Denot g.L.Line.mentions c.args.models.now c.args.instance.now.path (instances_from c.args.models.now (c.args.levels - 1))
      c.in-Some.model.now.items c.args.out.now.instances c.list.new.self
      (Lists-self g.row.L.Denot g.L.Line.mentions c.args.models.now c.args.instance.now c.args.out.now.instances c.list.new.self c.in_ok-list.ensures.instances
      (subst (λ (table : SignalTable). IsOpened c.args.models.now table.owners c.args.instance.now) (sym c.list.ensures.table) c.requires.opened) c.requires.small);
}

pub walk-visit-requires : goal.walk-visit-requires
walk-visit-requires g t c κs within =
    let listed = items_of-get c.args.models.now c.args.instance.now.model c.in-Some.model.now
    (model-read c.args.models.now c.as_slice.result.now c.args.instance.now.model c.in-Some.model.now c.as_slice.ensures c.in-Some.ensures.lookup.3.0 c.in-Some.ensures.lookup.1) in
    let room : length (onto c.args.out.now.table.seen (mentioned g.L.Line.mentions c.args.models.now
    (lines_by (expand c.args.models.now (c.args.levels - 1)) c.args.instance.now.path 0 c.in-Some.model.now.items))) ≤ 2 ^ 32 =
    subst (λ lines. length (onto c.args.out.now.table.seen (mentioned g.L.Line.mentions c.args.models.now lines)) ≤ 2 ^ 32)
    (expand-step c.args.models.now c.args.levels c.args.instance.now.path c.args.instance.now.model c.in-Some.model.now.items c.if-levels-eq0.false c.requires.opened.model listed)
    c.requires.room in (
      omega (arith, c.decreases, c.if-levels-eq0.false),
      (
        within,
        (
          c.requires.named,
          (
            IsOpened-grown g.row.L.Denot g.L.Line.mentions c.args.models.now c.args.instance.now.path c.args.out.now.table.owners c.loop-item.out.table.owners
                c.args.instance.now c.loop-item.invariant.walking.grows c.requires.opened,
            (
              c.requires.small,
              (
                c.loop-item.invariant.walking.fresh,
                (
                  ap (λ items. slice_get items c.loop-item.item) listed ∙ c.at.ensures,
                  (
                    placed-as g.row.L.Denot g.L.Line.mentions c.args.models.now c.args.instance.now.path (expand c.args.models.now (c.args.levels - 1))
                        c.in-Some.model.now.items c.args.out.now c.loop-item.out c.loop-item.item c.loop-item.k c.loop-item.invariant.walking c.at.result.now c.at.ensures
                        (sym listed ∙ ap (items_of c.args.models.now) c.requires.opened.model),
                    (
                      omega (arith, c.loop-item.invariant.walking.few, c.loop-item-test.true),
                      room-item g.row.L.Denot g.L.Line.mentions c.args.models.now c.args.instance.now.path (expand c.args.models.now (c.args.levels - 1))
                          c.in-Some.model.now.items c.args.out.now c.loop-item.out c.loop-item.item c.loop-item.k c.loop-item.invariant.walking c.at.result.now c.at.ensures (2 ^ 32) room,
                    ),
                  ),
                ),
              ),
            ),
          ),
        ),
      ),
    )

pub walk-loop-item-preserved : goal.walk-loop-item-preserved
walk-loop-item-preserved g t c = record {
  walking = walking-next g.row.L.Denot g.L.Line.mentions c.args.models.now c.args.instance.now.path (expand c.args.models.now (c.args.levels - 1))
      c.in-Some.model.now.items c.args.out.now c.loop-item.out c.loop-item.item c.loop-item.k c.loop-item.invariant.walking c.at.result.now c.at.ensures
      c.visit.new.out _ c.in_ok-k.ensures.walks c.in_ok-k.ensures.grows c.in_ok-k.ensures.fresh c.in_ok-k.ensures.next;
  listing = listing-next g.row.L.Denot g.L.Line.mentions c.args.models.now c.args.instance.now.path (instances_from c.args.models.now (c.args.levels - 1))
      c.in-Some.model.now.items c.args.out.now.instances c.loop-item.out c.visit.new.out c.loop-item.item c.loop-item.k _ c.at.result.now c.at.ensures
      c.loop-item.invariant.listing c.in_ok-k.ensures.grows c.in_ok-k.ensures.lists c.in_ok-k.ensures.next;
}

pub walk-returns-clause-lists : goal.walk-returns-clause-lists
walk-returns-clause-lists g t c =
    let listed = items_of-get c.args.models.now c.args.instance.now.model c.in-Some.model.now
    (model-read c.args.models.now c.as_slice.result.now c.args.instance.now.model c.in-Some.model.now c.as_slice.ensures c.in-Some.ensures.lookup.3.0 c.in-Some.ensures.lookup.1) in
    rw (level-step c.args.models.now c.args.levels c.args.instance.now.path c.args.instance.now.model c.in-Some.model.now.items c.if-levels-eq0.false c.requires.opened.model listed)
    (listing-end g.row.L.Denot g.L.Line.mentions c.args.models.now c.args.instance.now.path (instances_from c.args.models.now (c.args.levels - 1))
    c.in-Some.model.now.items c.args.out.now.instances c.loop-item.out c.loop-item.item c.loop-item.k c.loop-item.invariant.listing (omega (arith, c.loop-item-test.false, c.len-item-end.ensures)))

pub walk-returns-clause-walks : goal.walk-returns-clause-walks
walk-returns-clause-walks g t c =
    let listed = items_of-get c.args.models.now c.args.instance.now.model c.in-Some.model.now
    (model-read c.args.models.now c.as_slice.result.now c.args.instance.now.model c.in-Some.model.now c.as_slice.ensures c.in-Some.ensures.lookup.3.0 c.in-Some.ensures.lookup.1) in
    subst (λ lines. Walks g.L.Line.mentions c.args.models.now lines c.args.out.now c.loop-item.out)
    (sym (expand-step c.args.models.now c.args.levels c.args.instance.now.path c.args.instance.now.model c.in-Some.model.now.items c.if-levels-eq0.false c.requires.opened.model listed))
    (walking-end g.row.L.Denot g.L.Line.mentions c.args.models.now c.args.instance.now.path (expand c.args.models.now (c.args.levels - 1))
    c.in-Some.model.now.items c.args.out.now c.loop-item.out c.loop-item.item c.loop-item.k c.loop-item.invariant.walking (omega (arith, c.loop-item-test.false, c.len-item-end.ensures))).0
