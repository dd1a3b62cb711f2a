-- A connection by its bytes.
use Rattle.blif_linking.specs.declared.links.Connected.{Connected}
use Rattle.blif_linking.specs.Links.{Link}

abbrev pub link_in : Connected → Link
link_in connected = record { formal = connected.formal.now; actual = connected.actual.now }
