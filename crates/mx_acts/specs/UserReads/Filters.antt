pub use Rattle.mx_user_reads.specs.Filters.{filter_for, filter_in, filter_named, filter_read, first_filter, number_of}
