pub use Rattle.mx_sync.specs.Replies.{reply_of}
