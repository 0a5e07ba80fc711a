use Rattle.std.proofs.Common.{◌≡◌, ◌≤◌, ◌++◌, OnOk, Result, Ok, Err, Some, string_bytes, ap, sym, subst, ◌∙◌}
use Rattle.std.specs.Str.{IsUtf8}
use Rattle.serde_json.specs.Data.{depth}
use Rattle.serde_json.specs.Read.{read, max_depth}
use Rattle.serde_json.specs.Written.{has_float, compact_text}
use Rattle.mx_json.specs.Texts.{json_text}
use Rattle.mx_json.proofs.Fractions.{is_whole}
use Rattle.mx_json.proofs.Reading.{reads_as}
use Rattle.mx_json.proofs.value.Json.write.Goals as goal

written : (c : goal.After-drop-text) → string_bytes c.in_ok-text.text ≡ json_text c.args.self.now
written c =
    let is = c.in_ok-value_of.ensures in
    c.in_ok-text.ensures.text (ap has_float is ∙ is_whole c.args.self.now) ∙ ap compact_text is

pub returns-clause-ok : goal.returns-clause-ok
returns-clause-ok c =
    subst (λ t. OnOk c.push_str.result (c.push_str.new.self ≡ c.args.out.now ++ t)) (c.as_str.ensures.value ∙ written c) c.push_str.ensures.ok

on_ok : {A B : Type 0} (T : Type 0) (r : Result A B) → T → OnOk r T
on_ok T (Ok a) t = t
on_ok T (Err b) t = tt

pub returns-clause-reads_back : goal.returns-clause-reads_back
returns-clause-reads_back c =
    let is = c.in_ok-value_of.ensures in
    let json = c.args.self.now in
    on_ok _ c.push_str.result (λ range deep.
    let read_again = c.in_ok-text.ensures.reads_back (subst (λ n. n ≤ max_depth) (ap depth (sym is)) deep) in
    reads_as (json_text json) json (subst IsUtf8 (c.as_str.ensures.value ∙ written c) c.as_str.utf8) (ap read (sym (written c)) ∙ read_again ∙ ap Some is) range)
