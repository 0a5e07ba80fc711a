pub use Rattle.mx_json.specs.Fields.{text_at}
