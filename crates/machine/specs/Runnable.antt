-- Where the functions of what is run are.
use Rattle.machine.specs.declared.table.Runnable.{Runnable}
use Rattle.machine.specs.Step.{Map, map_of}

abbrev pub map_in : Runnable → Map
map_in t = map_of t.starts t.owners t.home
