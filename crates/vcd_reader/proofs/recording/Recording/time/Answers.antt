use Rattle.std.proofs.Common.{◌≡◌, ◌≤◌, ◌∙◌, ℕ, get_or, sym, ap, subst, length, arith}
use Rattle.std.proofs.lemmas.List.{get_or_read}
use Rattle.vcd_reader.proofs.Rows.{time-kept, begins-within}
use Rattle.vcd_reader.specs.Rows.{time_at}
use Rattle.vcd_reader.proofs.recording.Recording.time.Goals as goal

pub index-requires : goal.index-requires
index-requires c =
    let low = begins-within c.args.self.now c.self.inside.names c.self.inside.bytes c.self.inside.samples c.self.inside.changes.items c.self.inside.starts.items c.self.inside.unknown c.args.sample c.self.view_is c.self.invariant c.requires in
    omega (arith, low, c.self.inside.starts.ok.0)

pub time_behind-requires-clause-within : goal.time_behind-requires-clause-within
time_behind-requires-clause-within c =
    let low = begins-within c.args.self.now c.self.inside.names c.self.inside.bytes c.self.inside.samples c.self.inside.changes.items c.self.inside.starts.items c.self.inside.unknown c.args.sample c.self.view_is c.self.invariant c.requires in
    rw c.as_slice.ensures (subst (λ (start : ℕ). start ≤ length c.self.inside.bytes) (sym c.index.ensures) (c.self.invariant.within c.args.sample c.index.result.now low))

pub returns : goal.returns
returns c =
    let low = begins-within c.args.self.now c.self.inside.names c.self.inside.bytes c.self.inside.samples c.self.inside.changes.items c.self.inside.starts.items c.self.inside.unknown c.args.sample c.self.view_is c.self.invariant c.requires in
    let here : c.index.result.now ≡ get_or c.self.inside.starts.items c.args.sample 0 = get_or_read c.self.inside.starts.items c.args.sample c.index.result.now low c.index.ensures 0 in
    c.time_behind.ensures ∙ ap (λ bytes. time_at bytes c.index.result.now) c.as_slice.ensures
    ∙ time-kept c.args.self.now c.self.inside.names c.self.inside.bytes c.self.inside.samples c.self.inside.changes.items c.self.inside.starts.items c.self.inside.unknown c.args.sample c.index.result.now c.self.view_is low here
