use Rattle.std.proofs.Common.{◌≡◌, ap, sym, subst, All}
use Rattle.blif_model.specs.FileKnown.{FileKnown}
use Rattle.blif_model.specs.Known.{Known}
use Rattle.blif_model.specs.Scanning.{IsWithin}
use Rattle.blif_model.proofs.Keeping.{kept-place}
use Rattle.blif_model.proofs.file_reader.FileReader.place.Goals as goal

pub invariant_of-self : goal.invariant_of-self
invariant_of-self c =
    let inside = c.self.inside in
    let same : c.args.self.own.named.whole ≡ inside.own.named.whole = sym (ap (λ (file : FileKnown). file.own.named.whole) c.self.view_is) in
    kept-place inside.own.named.whole c.command.new.self.named.whole inside.earlier inside.title inside.clocks inside.placements c.push.new.self
    (record { head = c.args.head; words = c.in_ok-from_slice.field-0; before = c.len-before.result })
    (ap (λ (known : Known). known.named.whole) c.in_ok-command.ensures.known) c.in_ok-push.ensures.ok c.self.invariant (
      subst (λ w. IsWithin w c.args.head) same c.requires.head,
      subst (All (IsWithin inside.own.named.whole)) (sym c.in_ok-from_slice.ensures)
          (subst (λ w. All (IsWithin w) c.args.words.now) same c.requires.words),
    )
