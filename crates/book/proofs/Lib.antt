mod Flags
mod Numbers
mod Places
mod Rows
