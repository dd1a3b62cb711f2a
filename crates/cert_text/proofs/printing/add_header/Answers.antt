use Rattle.std.proofs.Common.{◌∙◌, ap, [], ◌∷◌, ◌++◌, ℕ, List}
use Rattle.std.proofs.lemmas.Result.{on_ok_weaker}
use Rattle.cert_theory.specs.Lines.{field_line, form_line, last_line, lines_text, live_lines}
use Rattle.cert_theory.specs.Printed.{live_of}
use Rattle.cert_theory.specs.declared.header.Field.TheVariants.{Assertion, Visits, Window}
use Rattle.cert_theory.specs.declared.header.Form.TheVariants.{Windowed}
use Rattle.cert_text.proofs.Joining.{lines_added}
use Rattle.cert_text.proofs.printing.add_header.Goals as goal

pub returns : goal.returns
returns c =
    let certificate = c.args.certificate.now in
    let old = c.args.text.now.items in
    let version = form_line (Windowed c.args.version) in
    let assertion = field_line Assertion certificate.assertion in
    let visits = field_line Visits certificate.visits in
    let window = field_line Window certificate.window in
    let live = live_lines (Windowed c.args.version) (live_of c.args.version certificate) in
    let first = c.in_ok-add_line.ensures ∙ ap (λ (line : List ℕ). old ++ lines_text (line ∷ [])) c.first_line.ensures in
    let second = lines_added (version ∷ []) (assertion ∷ []) old c.add_line.new.text.items c.add_field.new.text.items first c.in_ok-add_field.ensures in
    let third = lines_added (version ∷ assertion ∷ []) (visits ∷ []) old c.add_field.new.text.items c.add_field-2.new.text.items second c.in_ok-add_field-2.ensures in
    let fourth = lines_added (version ∷ assertion ∷ visits ∷ []) (window ∷ []) old c.add_field-2.new.text.items c.add_field-3.new.text.items third c.in_ok-add_field-3.ensures in
    let fifth = lines_added (version ∷ assertion ∷ visits ∷ window ∷ []) live old c.add_field-3.new.text.items c.add_live.new.text.items fourth c.in_ok-add_live.ensures in
    on_ok_weaker c.add_line-2.result
    (λ last. lines_added (version ∷ assertion ∷ visits ∷ window ∷ live) (last_line (Windowed c.args.version) ∷ []) old c.add_live.new.text.items c.add_line-2.new.text.items fifth last)
    c.add_line-2.ensures
