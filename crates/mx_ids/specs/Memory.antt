-- Want of memory.
use Rattle.mx_ids.specs.declared.memory.Memory.{Memory}

-- the one value: it tells nothing but that an allocation was refused
abbrev pub refused_memory : Memory
refused_memory = record { refused = record {} }
