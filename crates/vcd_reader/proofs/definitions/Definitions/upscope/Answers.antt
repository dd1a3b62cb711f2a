use Rattle.std.proofs.Common.{◌≡◌, ◌<◌, length, ap, ◌∙◌, ℕ, List, arith}
use Rattle.std.proofs.lemmas.List.{length-map}
use Rattle.psl_base.specs.Tokens.{TokensLeft, ◌▸◌}
use Rattle.vcd_reader.specs.Running.{defining}
use Rattle.vcd_reader.specs.Standing.{Ready}
use Rattle.vcd_reader.proofs.Defining.{all_but_last, some_there, scope_closed}
use Rattle.vcd_reader.proofs.definitions.Definitions.upscope.Goals as goal

pub returns-clause-goes : goal.returns-clause-goes
returns-clause-goes c =
    let end = c.in_ok-end.ensures.ok in
    let deep : 0 < length c.args.self.now.scopes = rw (← c.self.view_is) (omega (arith, length-map c.self.inside.scopes.items (λ scope. scope.now), c.len-depth.ensures, c.self.inside.scopes.ok.0)) in
    let count : c.len-depth.result ≡ length c.self.inside.scopes.items = c.len-depth.ensures ∙ c.self.inside.scopes.ok.0 in
    ap (λ (left : TokensLeft). defining c.args.self.now Ready (c.args.upscope.now ▸ left)) end.1
    ∙ scope_closed c.args.self.now _ c.args.upscope.now end.0 c.end.new.cursor c.requires (some_there _ deep) end.2
    (rw (← c.self.view_is) (ap (λ (scopes : List (List ℕ)). record { codes = c.self.inside.codes; signals = c.self.inside.signals.items; names = c.self.inside.names; scopes = scopes })
    (all_but_last (λ scope. scope.now) c.self.inside.scopes.items c.truncate.new.self.items c.len-depth.result count c.truncate.ensures.items)))
