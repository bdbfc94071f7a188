mod Running
mod Unserved
mod Coming
mod Returning
mod Stopping
