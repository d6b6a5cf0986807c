mod Naming
mod FieldLaws
mod Runs
mod Rising
mod Codec
mod WholeLaws
mod Sizes
mod Rows
