-- How often a real adapter has failed.
use Rattle.std.specs.Prelude.{ℕ}
use Rattle.au_io.specs.declared.file_disk.FileDisk.{FileDisk}
use Rattle.au_io.specs.declared.std_sink.StdSink.{StdSink}
use Rattle.au_io.specs.declared.std_source.StdSource.{StdSource}
use Rattle.au_io.specs.declared.tcp.TcpLobby.{TcpLobby}

abbrev pub std_source_faults : {R : Type 0} → StdSource R → ℕ
std_source_faults source = source.faults

abbrev pub std_sink_faults : {W : Type 0} → StdSink W → ℕ
std_sink_faults sink = sink.faults

abbrev pub file_disk_faults : FileDisk → ℕ
file_disk_faults disk = disk.faults

abbrev pub tcp_lobby_faults : TcpLobby → ℕ
tcp_lobby_faults lobby = lobby.faults
