-- What the ends over std's reader and writer hold.
use Rattle.std.specs.Prelude.{ℕ}
use Rattle.cmm_io.specs.declared.standard.StdSource.{StdSource}
use Rattle.cmm_io.specs.declared.standard.StdSink.{StdSink}

abbrev pub reader_of : {R : Type 0} → StdSource R → R
reader_of source = source.reader

-- how many bytes it gave, and how many reads failed
abbrev pub source_given : {R : Type 0} → StdSource R → ℕ
source_given source = source.given

abbrev pub source_faults : {R : Type 0} → StdSource R → ℕ
source_faults source = source.faults

abbrev pub writer_of : {W : Type 0} → StdSink W → W
writer_of sink = sink.writer

-- how many writes failed
abbrev pub sink_faults : {W : Type 0} → StdSink W → ℕ
sink_faults sink = sink.faults
