mod ImageLaws
mod Pieces
mod Table
mod Whole
