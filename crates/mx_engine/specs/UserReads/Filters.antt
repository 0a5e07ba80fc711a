pub use Rattle.mx_acts.specs.UserReads.Filters.{filter_for, filter_in, filter_named, filter_read, first_filter, number_of}
