-- The text of an error.
use Rattle.std.specs.Prelude.{ℕ, List, codes}
use Rattle.journal_io.specs.declared.error.PrintError.{PrintError}
use Rattle.journal_io.specs.declared.error.PrintError.TheVariants.{Unread, Unwritten}

abbrev pub print_error_text : PrintError → List ℕ
print_error_text Unread = codes "the journal could not be read whole"
print_error_text (Unwritten n) = codes "the lines could not be written"
