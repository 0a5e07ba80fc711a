-- What a body gives, cause by cause.
use Rattle.std.proofs.Common.{◌≡◌, ◌<◌, ◌≤◌, List, length, Bool, true, false, Option, Some, None, Ok, Err, codes, refl, sym, ap, ◌∙◌}
use Rattle.std.proofs.lemmas.Bool.{cond-true, cond-false, lt-ltb, le-ltb}
use Rattle.mx_event.specs.declared.draft.Draft.{Draft}
use Rattle.mx_ids.specs.declared.users.Users.{Users}
use Rattle.mx_json.specs.Fields.{field}
use Rattle.mx_json.specs.declared.value.Json.{Json}
use Rattle.mx_core.specs.Limits.{most_drawn}
use Rattle.mx_create.specs.Blocks.{Creating, are_known, block_of, drafts_of, is_eleven, with_preset}
use Rattle.mx_create.specs.Presets.{preset_of}
use Rattle.mx_create.specs.declared.fault.CreateFault.TheVariants as faults
use Rattle.mx_create.specs.declared.preset.Preset.{Preset}

absent : (p : Option Preset) → ((q : Preset) → p ≡ Some q → ⊥) → p ≡ None
absent None other = refl
absent (Some q) other = absurd (other q refl)

module _ (by : Creating) (users : Users) (ask : Json) where
  abbrev Version : Bool → Type 0
  Version b = is_eleven (field (codes "room_version") ask) ≡ b

  pub no_version : Version false → block_of by users ask ≡ Err faults.Version
  unfolding block_of
  no_version e = cond-false _ _ _ e

  judged : (p : Option Preset) → Version true → preset_of ask ≡ p → block_of by users ask ≡ with_preset by users ask p
  unfolding block_of
  judged p e is = cond-true _ _ _ e ∙ ap (with_preset by users ask) is

  pub no_preset : (p : Option Preset) → Version true → p ≡ preset_of ask → ((q : Preset) → p ≡ Some q → ⊥) → block_of by users ask ≡ Err faults.Preset
  no_preset p e is other = judged None e (sym is ∙ absent p other)

  module _ (preset : Preset) where
    pub no_user : Version true → preset_of ask ≡ Some preset → are_known users ask ≡ false → block_of by users ask ≡ Err faults.NoUser
    no_user e is known = judged (Some preset) e is ∙ cond-false _ _ _ known

    pub too_many : Version true → preset_of ask ≡ Some preset → are_known users ask ≡ true → most_drawn < length (drafts_of by preset ask) → block_of by users ask ≡ Err faults.TooMany
    too_many e is known many = judged (Some preset) e is ∙ cond-true _ _ _ known ∙ cond-true _ _ _ (lt-ltb most_drawn (length (drafts_of by preset ask)) many)

    pub found : (drafts : List Draft) → Version true → preset_of ask ≡ Some preset → are_known users ask ≡ true → length (drafts_of by preset ask) ≤ most_drawn
        → drafts ≡ drafts_of by preset ask → block_of by users ask ≡ Ok drafts
    found drafts e is known few all =
        judged (Some preset) e is ∙ cond-true _ _ _ known ∙ cond-false _ _ _ (le-ltb most_drawn (length (drafts_of by preset ask)) few) ∙ ap Ok (sym all)
