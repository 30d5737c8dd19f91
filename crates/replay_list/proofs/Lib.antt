-- Laws that belong to no one function.
mod Slots
mod Turns
