-- What the faults of stores are shown as.
use Rattle.std.specs.Prelude.{ℕ, List, ◌++◌, codes, decimal}
use Rattle.backends.specs.declared.fault.ReadFault.{ReadFault}

abbrev pub read_text : ReadFault → List ℕ
read_text f = codes "place " ++ (decimal f.place ++ codes " is a fault")
