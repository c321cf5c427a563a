mod AsBox
mod Lines
mod Transcripts
mod Performed
mod Judges
mod Served
