-- The record that stands at an index of a buffer. Assumes nothing.
use Rattle.sheet.specs.declared.Record.{Record}
use Rattle.sheet.specs.declared.encoding.StoredRecord.{StoredRecord}
use Rattle.records.specs.Parts.{part}
use Rattle.sheet.specs.Layout.{layout_of, decoded}

abbrev pub plot_of : StoredRecord → Record
plot_of x = decoded (layout_of x.each.bytes) (part x.bytes.now x.at x.each.bytes)
