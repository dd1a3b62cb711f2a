use Rattle.trace.proofs.Growing.{pieces-added}
use Rattle.trace.proofs.writing.add_declaration.Goals as goal
use Rattle.trace.specs.Codes.{code_of}
use Rattle.trace.specs.Printed.{printed}

pub returns : goal.returns
returns c =
    pieces-added c.args.text.now.items c.add_bytes.new.text.items c.add_code.new.text.items c.add_bytes-2.new.text.items c.add_printed.new.text.items c.add_bytes-3.new.text.items
    (code_of c.args.signal) (printed c.args.name.now)
    c.in_ok-add_bytes.ensures.ok c.in_ok-add_code.ensures c.in_ok-add_bytes-2.ensures.ok c.in_ok-add_printed.ensures c.in_ok-add_bytes-3.ensures.ok
