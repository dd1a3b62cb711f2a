use Rattle.std.proofs.Common.{List, sym, subst}
use Rattle.blif_flattening.specs.declared.listing.FlatInstance.{FlatInstance}
use Rattle.blif_flattening.specs.Members.{Among}
use Rattle.blif_flattening.proofs.Members.{Among-at}
use Rattle.blif_flat.proofs.instance_names.names_of.Goals as goal

pub add_names-requires : goal.add_names-requires
add_names-requires c =
    let items = c.as_slice-instance-items.result.now in
    let instance = c.instance-item.result in
    c.requires instance
    (subst (λ (list : List FlatInstance). Among instance list) c.as_slice-instance-items.ensures
    (subst (λ (one : FlatInstance). Among one items) (sym c.instance-item.is) (Among-at items c.loop-instance.instance-index instance c.loop-instance-test.true)))
