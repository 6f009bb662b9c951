-- What gathered output has.
use Rattle.std.specs.Prelude.{ℕ, List, Option}
use Rattle.std.specs.Io.Buffered.{writer_inner, writer_buffer, writer_contents}
use Rattle.cmm_output.specs.declared.output.Output.{Output}

-- the writer that it hands on to
abbrev pub target : {W : Type 0} → Output W → W
target output = writer_inner output.writer

-- the bytes that were written and are still to be handed on
abbrev pub held_back : {W : Type 0} → Output W → List ℕ
held_back output = writer_buffer output.writer

-- what was written: what the writer has, where it tells that, and behind it what is held back
abbrev pub gathered : {W : Type 0} → (W → Option (List ℕ)) → Output W → Option (List ℕ)
gathered contents output = writer_contents contents output.writer

-- how many calls of the writer failed
abbrev pub output_faults : {W : Type 0} → Output W → ℕ
output_faults output = output.faults
