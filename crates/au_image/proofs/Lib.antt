mod Pieces
mod RecordPieces
mod RowPieces
