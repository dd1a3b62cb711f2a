use Rattle.std.proofs.Common.{ap, ◌∙◌, ◌++◌, ℕ, List}
use Rattle.trace.proofs.Growing.{piece-more}
use Rattle.trace.proofs.writing.add_declarations.Goals as goal
use Rattle.trace.specs.Trace.{declaration, declaration_of}

pub loop-signal-preserved : goal.loop-signal-preserved
loop-signal-preserved c =
    piece-more (declaration c.args.names.now) c.args.text.now.items c.loop-signal.text.items c.add_declaration.new.text.items c.loop-signal.signal c.loop-signal.invariant
    (c.in_ok-add_declaration.ensures ∙ ap (λ (name : List ℕ). c.loop-signal.text.items ++ declaration_of name c.loop-signal.signal) c.first_text.ensures)
