-- What the program's log record means. Assumes nothing.
use Rattle.logs.specs.Entries as E
use Rattle.entries.specs.declared.Entry.{Entry}

abbrev pub entry_of : Entry → E.Entry
entry_of x = record { shown = x.shown; answer = x.answer; asked = x.asked; count = x.count; pad = x.pad }
