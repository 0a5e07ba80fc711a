use Rattle.std.proofs.Common.{◌≡◌, ◌+◌, ◌-◌, ◌^◌, min, length, take}
use Rattle.json.specs.Print.{escape}
use Rattle.mx_json.proofs.size.text_size.Given as goal

abbrev pub invariant-loop-byte : goal.invariant-loop-byte
invariant-loop-byte l = l.size ≡ min (2 + length (escape (take l.byte-index l.byte-items))) (2 ^ 64 - 1)
